-- The connections of a seat over a desk that is not stopped are answered.
use Rattle.std.proofs.Common.{◌≡◌, ◌⊎◌, ℕ, ◌-◌, ◌<◌, Bool, true, false, List, [], ◌∷◌, drop, Option, Some, None, refl, subst, ap, inl, inr, arith}
use Rattle.std.proofs.lemmas.List.{take-append-drop}
use Rattle.doors.specs.Visits.{Visit}
use Rattle.outside.specs.Flow.{Flow}
use Rattle.command_types.specs.History.{History, cut_after, longer}
use Rattle.session.specs.declared.serve.SessionEnd.{SessionEnd}
use Rattle.session.specs.declared.serve.SessionEnd.TheVariants as session_end
use Rattle.session.specs.Answered.{IsInputAnswered}
use Rattle.session.specs.Ending.{Ends as SessionEnds}
use Rattle.session.specs.Serving.{Seat}
use Rattle.session.proofs.AnsweredFacts.{input_longer, session_ran, ended_answered, limited_answered}
use Rattle.seats.specs.declared.seat.SeatEnd.{SeatEnd}
use Rattle.seats.specs.Answered.{IsVisitAnswered, IsFaultless, FoundNoMemory, AreVisitsAnswered, ConnectionsAreAnswered}
use Rattle.seats.specs.Final.{Final, sight_at, AreServed}
use Rattle.seats.specs.Sessions.{input_of, MayGoOn}

-- a stop that would be the desk's did not come
no_stop : (told stopped : Bool) → (told ≡ true → stopped ≡ true) → stopped ≡ false → told ≡ false
no_stop true stopped is runs = let stops = is refl in absurd (cc)
no_stop false stopped is runs = refl

-- ---- a connection

whole_history : (h : History) (n : ℕ) → longer (cut_after h n) (drop (n - h.base.position) h.entries) ≡ h
whole_history h n = ap (λ es. record h { entries = es }) (take-append-drop (n - h.base.position) h.entries)

-- the streams of a connection, before its session and after it
abbrev opened_in : Visit → Option Flow
opened_in visit = Some (record { given = []; left = input_of visit })

abbrev flow_in : Visit → Option Flow
flow_in visit = Some (record { given = visit.gave; left = visit.left })

-- the whole history has what a front of it has
in_whole : (visit : Visit) (seat : Seat) (h : History) (m : ℕ) (limit : Bool) →
    IsInputAnswered seat.figures (cut_after h m) seat.number (opened_in visit) (flow_in visit) (Some []) (Some visit.took) limit → IsVisitAnswered seat.figures h seat.number visit
in_whole visit seat h m limit a = (
  limit,
  subst (λ whole. IsInputAnswered seat.figures whole seat.number (opened_in visit) (flow_in visit) (Some []) (Some visit.took) limit) (whole_history h m)
      (input_longer seat.figures (cut_after h m) seat.number (drop (m - h.base.position) h.entries) (opened_in visit) (flow_in visit) (Some []) (Some visit.took) limit a),
)

gave_of : List ℕ → Option Flow → List ℕ
gave_of other None = other
gave_of other (Some flow) = flow.given

took_of : List ℕ → Option (List ℕ) → List ℕ
took_of other None = other
took_of other (Some taken) = taken

unserved_gave : (visit : Visit) → flow_in visit ≡ opened_in visit → visit.gave ≡ []
unfolding gave_of
unserved_gave visit e = ap (gave_of []) e

unserved_took : (visit : Visit) → Some visit.took ≡ Some [] → visit.took ≡ []
unfolding took_of
unserved_took visit e = ap (took_of []) e

module _ (seat : Seat) (h : History) (n m : ℕ) (stopped stop : Bool) (visit : Visit) (others : List Visit) (out : SeatEnd) (runs : stop ≡ false) (faultless : IsFaultless visit) where
  visit_answered : (clock : ℕ → Bool) (end : SessionEnd) → SessionEnds clock (sight_at seat h n stopped) (opened_in visit) (flow_in visit) (Some []) (Some visit.took) (sight_at seat h m stop) end →
      (end ≡ session_end.SourceFault → 0 < visit.input_faults) → (end ≡ session_end.SinkFault → 0 < visit.output_faults) → MayGoOn end others out →
      IsVisitAnswered seat.figures h seat.number visit ⊎ FoundNoMemory visit others out
  visit_answered clock session_end.Ended ends source sink may =
      inl (in_whole visit seat h m false (ended_answered clock (sight_at seat h n stopped) (sight_at seat h m stop) (opened_in visit) (flow_in visit) (Some []) (Some visit.took) ends runs))
  visit_answered clock session_end.Limit ends source sink may =
      inl (in_whole visit seat h m true (limited_answered clock (sight_at seat h n stopped) (sight_at seat h m stop) (opened_in visit) (flow_in visit) (Some []) (Some visit.took) ends runs))
  visit_answered clock session_end.SourceFault ends source sink may = let some = source refl in absurd (omega (arith, some, faultless.0))
  visit_answered clock session_end.SinkFault ends source sink may = let some = sink refl in absurd (omega (arith, some, faultless.1))
  visit_answered clock session_end.Memory (same, none, still) source sink may = inr (record {
    gave = unserved_gave visit same;
    took = unserved_took visit none;
    last = (may refl).0;
    out = (may refl).1;
  })

-- ---- a seat

module _ (final : Final) (runs : final.stopped ≡ false) (seat : Seat) where
  visits_answered : (clock : ℕ → Bool) (n : ℕ) (stopped : Bool) (visits : List Visit) (out : SeatEnd) → AreServed clock final seat n stopped visits out →
      (stopped ≡ false) × AreVisitsAnswered seat.figures final.history seat.number visits out
  visits_answered clock n stopped [] out (none, stops) = (no_stop stopped final.stopped stops runs, tt)
  visits_answered clock n stopped (visit ∷ visits) out (m, stop, up, within, first, may, rest) =
      let on = visits_answered clock m stop visits out rest in (
        session_ran (sight_at seat final.history n stopped) (sight_at seat final.history m stop) (opened_in visit) (flow_in visit) (Some []) (Some visit.took) on.0 clock first.end first.ends,
        (λ faultless. visit_answered seat final.history n m stopped stop visit visits out on.0 faultless clock first.end first.ends first.source_fault first.sink_fault may, on.1),
      )

pub connections_are_answered : ConnectionsAreAnswered
connections_are_answered clock final seat n stopped visits end served runs = (visits_answered final runs seat clock n stopped visits end served).1
