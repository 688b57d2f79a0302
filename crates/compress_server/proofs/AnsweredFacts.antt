-- Every line of a script and of a service's connections is answered, where nothing outside fails.
use Rattle.std.proofs.Common.{◌≡◌, ◌⊎◌, ℕ, ◌+◌, Bool, true, false, List, [], ◌∷◌, Option, Some, None, refl, sym, subst, ap, inl, inr}
use Rattle.doors.specs.Visits.{Visits}
use Rattle.outside.specs.Faults.{Rose}
use Rattle.outside.specs.Flow.{Flow}
use Rattle.command_types.specs.Lines.{cut_of, lines_of}
use Rattle.command_types.specs.History.{end_of}
use Rattle.command_types.specs.Session.{nobody}
use Rattle.cycle_lock.specs.Passes.{LockId}
use Rattle.house.specs.House.{HouseView, figures_of, is_stopped}
use Rattle.session.specs.Answered.{AreAnswered, IsInputAnswered}
use Rattle.session.proofs.AnsweredFacts.{talk_answered, left_more}
use Rattle.seats.specs.declared.seat.SeatEnd.{SeatEnd}
use Rattle.seats.proofs.AnsweredFacts.{connections_are_answered}
use Rattle.compress_server.specs.declared.script.ScriptEnd.{ScriptEnd}
use Rattle.compress_server.specs.declared.script.ScriptEnd.TheVariants.{Done, Unloaded, Unopened, Stopped, SourceFault, SinkFault, Limit, Memory}
use Rattle.compress_server.specs.declared.serve.ServiceEnd.{ServiceEnd}
use Rattle.compress_server.specs.declared.serve.ServiceEnd.TheVariants as service
use Rattle.compress_server.specs.Answered.{AnswersInput, ScriptsAreAnswered, IsSeatAnswered, AreSeatsAnswered, AnswersDoors, ServicesAreAnswered}
use Rattle.compress_server.specs.Complete.{HasFault, IsUndisturbed}
use Rattle.compress_server.specs.Housed.{OverJournal}
use Rattle.compress_server.specs.Run.{at_first, IsReplied, IsWhole, IsAtLimit}
use Rattle.compress_server.specs.Script.{script_end, ScriptRuns}
use Rattle.compress_server.specs.Seen.{OutputState, ListenerState, Seen, World, streams_of}
use Rattle.compress_server.specs.Serve.{ServicePlan, SeatRun, seat_at, final_of, IsSeatAt, AreSeats, IsUnasked, service_end, ServeRuns}
use Rattle.compress_server.specs.Telling.{TellsEnd}
use Rattle.program_words.specs.Words.{Form, ServiceNumbers}
use Rattle.compress_server.proofs.CompleteFacts.{told_so, load_status, opening_status}
use Rattle.compress_server.proofs.ServiceFacts.{none_asked}

-- what can't be true is false
held_false : (b : Bool) → (b ≡ true → ⊥) → b ≡ false
held_false true never = absurd (never refl)
held_false false never = refl

-- a stop that would be the house's did not come
no_stop : (told stopped : Bool) → (told ≡ true → stopped ≡ true) → stopped ≡ false → told ≡ false
no_stop true stopped is runs = let stops = is refl in absurd (cc)
no_stop false stopped is runs = refl

-- ---- a script

module _ (v w : HouseView) (runs : is_stopped w ≡ false) (opened flow : Option Flow) (begun taken : Option (List ℕ)) where
  replied_answered : {clock : ℕ → Bool} (lines : List (List ℕ)) (r : IsReplied clock v w begun taken lines) → AreAnswered (figures_of v) w.history 0 nobody lines r.text r.session.to.over
  replied_answered {clock} lines r =
      talk_answered (figures_of v) w.history 0 clock (at_first v) lines r.text r.session.made r.session.to refl (no_stop r.session.to.stopped (is_stopped w) r.stops runs) r.session.talk

  whole_answered : {clock : ℕ → Bool} → IsWhole clock v w opened flow begun taken → IsInputAnswered (figures_of v) w.history 0 opened flow begun taken false
  whole_answered (bytes, gives, inl (at_end, within, r)) = record {
    bytes = bytes;
    gives = gives;
    left = r.session.to.over;
    lines = lines_of bytes;
    which = inl (at_end, refl);
    text = r.text;
    answered = replied_answered (lines_of bytes) r;
    took = r.took;
  }
  whole_answered (bytes, gives, inr (within, l)) =
      let said : AreAnswered (figures_of v) w.history 0 nobody l.said l.replied.text true =
      subst (λ over. AreAnswered (figures_of v) w.history 0 nobody l.said l.replied.text over) l.over (replied_answered l.said l.replied) in
      record {
        bytes = bytes;
        gives = gives;
        left = true;
        lines = (cut_of bytes).whole;
        which = inr (refl, refl);
        text = l.replied.text;
        answered = subst (λ lines. AreAnswered (figures_of v) w.history 0 nobody lines l.replied.text true) (sym l.order)
            (left_more (figures_of v) w.history 0 nobody l.said l.others l.replied.text said);
        took = l.replied.took;
      }

  limit_answered : {clock : ℕ → Bool} → IsAtLimit clock v w opened flow begun taken → IsInputAnswered (figures_of v) w.history 0 opened flow begun taken true
  limit_answered (bytes, gives, size, (r, open_yet)) = record {
    bytes = bytes;
    gives = gives;
    left = r.session.to.over;
    lines = (cut_of bytes).whole;
    which = (size, open_yet, refl);
    text = r.text;
    answered = replied_answered (cut_of bytes).whole r;
    took = r.took;
  }

-- what came over a roster's rows
module _ (clock : ℕ → Bool) (roster journal : List ℕ) (workers : ℕ) (before after : World) (status : ℕ) (held : IsUndisturbed before after) where
  abbrev form : Form
  form = Form.Script roster journal workers

  abbrev Answers : Type 0
  Answers =
      ((status ≡ 0) × AnswersInput roster before after false)
      ⊎ (((status ≡ 8) × AnswersInput roster before after true) ⊎ (((status ≡ 3) × HasFault before.files form) ⊎ ((status ≡ 7) ⊎ (status ≡ 9))))

  script_answered : (own : ScriptEnd) → ScriptRuns clock roster before.files after.files (streams_of before.input before.seen.output) (streams_of after.input after.seen.output) before.seen.disk after.seen.disk own →
      TellsEnd before.errors after.errors (script_end own) status → Answers
  script_answered Done (rows, says, are, (v, w, housed, (runs, whole))) told =
      inl (told_so before.errors after.errors (script_end Done) status refl told, (rows, says, are, (v, w, housed, whole_answered v w runs before.input.flow after.input.flow before.seen.output.taken after.seen.output.taken whole)))
  script_answered (Unloaded fault) (unread, kept, is) told = inr (inr (load_status before.files after.files form held.files_held before.errors after.errors fault status is told))
  script_answered (Unopened fault) (unread, (rows, says, are, fails)) told =
      inr (inr (inr (opening_status rows before.seen.disk after.seen.disk held.disk_held before.errors after.errors fault status fails told)))
  script_answered Stopped (serves, rose) told = absurd (held.disk_held rose)
  script_answered SourceFault (serves, rose) told = absurd (held.input_held rose)
  script_answered SinkFault (serves, rose) told = absurd (held.output_held rose)
  script_answered Limit (rows, says, are, (v, w, housed, (any, limit))) told =
      let runs : is_stopped w ≡ false = held_false (is_stopped w) (λ stops. held.disk_held (housed.stopped stops)) in
      inr (inl (told_so before.errors after.errors (script_end Limit) status refl told, (rows, says, are, (v, w, housed, limit_answered v w runs before.input.flow after.input.flow before.seen.output.taken after.seen.output.taken limit))))
  script_answered Memory serves told = inr (inr (inr (inr (told_so before.errors after.errors (script_end Memory) status refl told))))

pub scripts_are_answered : {D : Type 0} (visits : D → Option Visits) → ScriptsAreAnswered visits
scripts_are_answered visits clock roster journal workers before after status ends held =
    let own = ends.runs.1 in
    script_answered clock roster journal workers before after status held own.0 own.2 (subst (λ x. TellsEnd before.errors after.errors x status) own.1 ends.tells)

-- ---- a service

module _ (most : ℕ) (lock : LockId) (v w : HouseView) (runs : is_stopped w ≡ false) where
  seat_answered : (clock : ℕ → Bool) (number : ℕ) (door : Option Visits) (end : SeatEnd) → IsSeatAt clock most lock v w number door end → IsSeatAnswered (figures_of v) w.history number door end
  seat_answered clock number None end is = tt
  seat_answered clock number (Some door) end is = connections_are_answered clock (final_of w) (seat_at lock v number) (end_of v.history) false door.back end is.served runs

  seats_answered : {D : Type 0} (clock : ℕ → Bool) (visits : D → Option Visits) (number : ℕ) (seats : List (SeatRun D)) → AreSeats clock visits most lock v w number seats → AreSeatsAnswered visits (figures_of v) w.history number seats
  seats_answered clock visits number [] are = tt
  seats_answered clock visits number (seat ∷ seats) are = (seat_answered clock number (visits seat.door) seat.end are.0, seats_answered clock visits (number + 1) seats are.1)

-- why the seats did not begin, where the listener did not fail
unbegun_status : (rose : Type 0) (errors errors' : OutputState) (status : ℕ) (own : ServiceEnd) → (own ≡ service.Memory) ⊎ ((own ≡ service.ListenerFault) × rose) → TellsEnd errors errors' (service_end own) status → (rose → ⊥) → status ≡ 9
unbegun_status rose errors errors' status own (inl e) told held = told_so errors errors' (service_end service.Memory) status refl (subst (λ x. TellsEnd errors errors' (service_end x) status) e told)
unbegun_status rose errors errors' status own (inr (e, rises)) told held = absurd (held rises)

module _ {D : Type 0} (clock : ℕ → Bool) (visits : D → Option Visits) (roster journal address : List ℕ) (numbers : ServiceNumbers) (before after : World) (status : ℕ) (held : IsUndisturbed before after) where
  abbrev plan : ServicePlan
  plan = record { address = address; seats = numbers.seats; connections = numbers.connections }

  abbrev served_form : Form
  served_form = Form.Serve roster journal address numbers

  abbrev ServiceAnswers : Type 0
  ServiceAnswers =
      ((((status ≡ 3) × HasFault before.files served_form) ⊎ ((status ≡ 7) ⊎ (status ≡ 9))) × IsUnasked visits address before.seen.listener.doors after.seen.listener.doors)
      ⊎ OverJournal before.files.folder roster before.seen.disk after.seen.disk (λ v w. AnswersDoors visits clock plan v w before.seen.listener.doors after.seen.listener.doors)

  service_answered : (own : ServiceEnd) → ServeRuns clock visits roster plan before.files after.files before.seen after.seen own → TellsEnd before.errors after.errors (service_end own) status → ServiceAnswers
  service_answered own (inl (fault, e, kept, is)) told =
      let told_then = subst (λ x. TellsEnd before.errors after.errors (service_end x) status) e told in
      inl (load_status before.files after.files served_form held.files_held before.errors after.errors fault status is told_then, none_asked visits address before.seen.listener.doors after.seen.listener.doors (ap (λ (s : Seen). s.listener.doors) kept))
  service_answered own (inr (rows, says, are, inl u)) told =
      let told_then = subst (λ x. TellsEnd before.errors after.errors (service_end x) status) u.told told in
      inl (inr (opening_status rows before.seen.disk after.seen.disk held.disk_held before.errors after.errors u.fault status u.opening told_then), none_asked visits address before.seen.listener.doors after.seen.listener.doors (ap (λ (l : ListenerState). l.doors) u.listener))
  service_answered own (inr (rows, says, are, inr (v, w, housed, inl u))) told =
      inl (inr (inr (unbegun_status (Rose before.seen.listener.faults after.seen.listener.faults) before.errors after.errors status own u.why told held.listener_held)), u.unasked)
  service_answered own (inr (rows, says, are, inr (v, w, housed, inr s))) told =
      let runs : is_stopped w ≡ false = held_false (is_stopped w) (λ stops. held.disk_held (housed.stopped stops)) in
      inr (
        rows,
        says,
        are,
        (
          v,
          w,
          housed,
          record {
            seats = s.seats;
            served = s.served;
            returned = s.returned;
            given = s.given;
            answered = seats_answered numbers.connections s.served.lock v w runs clock visits 1 s.seats s.served.each;
          },
        ),
      )

pub services_are_answered : {D : Type 0} (visits : D → Option Visits) → ServicesAreAnswered visits
services_are_answered visits clock roster journal address numbers before after status ends held =
    let own = ends.runs.1 in
    service_answered clock visits roster journal address numbers before after status held own.0 own.2 (subst (λ x. TellsEnd before.errors after.errors x status) own.1 ends.tells)
