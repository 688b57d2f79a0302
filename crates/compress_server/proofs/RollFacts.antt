-- What a roll writes, and why it does not: what was read of a disk, over the new rows.
use Rattle.std.proofs.Common.{◌≡◌, ◌∙◌, refl, sym, subst, ap, ℕ, Bool, true, false, List, Option, Some, None}
use Rattle.std.proofs.lemmas.List.Sums.{fold-append}
use Rattle.std.specs.Prelude.{◌↔◌, Result, Ok, IfSome, IsTrue, if◌then◌else◌}
use Rattle.units_core.specs.Day.{DayParts}
use Rattle.outside.specs.Faults.{Rose}
use Rattle.outside.specs.Flow.{Takes, TakesFront}
use Rattle.command_types.specs.declared.ask.Entry.{Entry}
use Rattle.command_types.specs.declared.base.Base.{Base}
use Rattle.command_types.specs.declared.cycle.Phase.{Phase}
use Rattle.command_types.specs.declared.cycle.Phase.TheVariants.{None as NoPhase, Frozen, Solving, Proposed, Broken}
use Rattle.command_types.specs.declared.figures.State.{State}
use Rattle.command_types.specs.declared.figures.Start.{Start}
use Rattle.command_types.specs.declared.spelling.Spelling.TheVariants.{Second}
use Rattle.command_types.specs.Bases.{CanBeWritten, Fits, base_spelling, written}
use Rattle.command_types.specs.Cycles.{is_open}
use Rattle.command_types.specs.Folds.{IsAtRest, folded}
use Rattle.command_types.specs.History.{History, IsLegalFrom, end_of, replayed, replayed_from}
use Rattle.command_types.specs.Machine.{state_after}
use Rattle.command_types.specs.Roster.{Rows, IsRoster}
use Rattle.cycle_laws.specs.Bases.{IsWritable}
use Rattle.cycle_laws.proofs.Bases.{folds_are_writable}
use Rattle.cycle_laws.proofs.Written.{writable_can_be_written, fitting_is_writable}
use Rattle.cycle_states.specs.BaseOf.{base_of}
use Rattle.cycle_states.specs.Replayed.{IsReplayed, base_at}
use Rattle.cycle_states.proofs.DeskFacts.{roster_replayed}
use Rattle.period_roll.specs.declared.cause.Cause.{Cause}
use Rattle.period_roll.specs.Laws.{KeepsPosition}
use Rattle.period_roll.specs.Rolls.{rolled, rolled_base}
use Rattle.period_roll.proofs.Fitting.{rolled_fits}
use Rattle.period_roll.proofs.Nets.{rolled_keeps}
use Rattle.period_roll.proofs.Written.{can_be_written}
use Rattle.recovery.specs.StandsFor.{StandsFor}
use Rattle.fresh_journal.specs.Journals.{begun_history, journal_of}
use Rattle.house.specs.declared.recovering.Recovered.{Recovered}
use Rattle.house.specs.Storing.{ContentStandsFor}
use Rattle.compress_server.specs.declared.ending.Obstacle.{Obstacle}
use Rattle.compress_server.specs.declared.ending.Obstacle.TheVariants.{Misfit}
use Rattle.compress_server.specs.declared.rolling.RollEnd.TheVariants.{Done, Unrolled, SinkFault}
use Rattle.compress_server.specs.declared.rolling.Unmade.{Unmade}
use Rattle.compress_server.specs.Cancelled.{cancel_of, rolled_past}
use Rattle.compress_server.specs.Files.{FilesState, SaysRoster}
use Rattle.compress_server.specs.Housed.{DiskState}
use Rattle.compress_server.specs.Replay.{IsKept}
use Rattle.compress_server.specs.Roll.{last_base, rolled_history, IsObstacle, IsObstacleAt, IsRolled, IsUnmade, IsUnmadeAt, OverRosters, RollRuns}
use Rattle.compress_server.specs.Seen.{OutputState}
use Rattle.compress_server.proofs.CancelFacts.{legal_behind}

-- ---- the base at the end of a history

-- what is written where a cycle is open is nothing
written_at : (p : Phase) (w b : Base) → (if is_open p then None else Some w) ≡ Some b → (p ≡ NoPhase) × (w ≡ b)
written_at NoPhase w b is = (refl, cc)
written_at Frozen w b is = absurd (cc)
written_at Solving w b is = absurd (cc)
written_at Proposed w b is = absurd (cc)
written_at Broken w b is = absurd (cc)

-- so what is written is that of the fold, at rest
last_at_rest : (h : History) (b : Base) → last_base h ≡ Some b → IsAtRest h × (written (folded h).base ≡ b)
last_at_rest h b is = written_at (replayed h).cycle.phase (written (base_at (end_of h) (replayed h))) b is

-- what a machine that made the changes writes
pub last_of : (s : State) (h : History) → IsReplayed s h → base_of (end_of h) s ≡ last_base h
last_of s h there = ap (λ (t : State). base_of (end_of h) t) there.same

-- a market goes on only from a base
rolled_some : (old new : Rows) (matured : Option DayParts) (o : Option Base) (made : Base) → rolled old new matured o ≡ Ok made → (b : Base) × (o ≡ Some b) × (rolled_base old new matured b ≡ Ok made)
rolled_some old new matured None made is = absurd (cc)
rolled_some old new matured (Some b) made is = (b, refl, is)

-- what is false is not true
not_both : (b : Bool) → b ≡ true → b ≡ false → ⊥
not_both b is fails = cc

-- a base that is there and does not fit
pub misfit : (old : Rows) (o : Option Base) → (IfSome o (Fits old) → ⊥) → (b : Base) × (o ≡ Some b) × (¬ Fits old b)
misfit old None none = absurd (none tt)
misfit old (Some b) none = (b, refl, none)

module _ (s : State) (position : ℕ) (o : Option Base) (is : o ≡ base_of position s) where
  -- what a machine gives comes to what is written of its state
  pub rolled_there : (old new : Rows) (matured : Option DayParts) (r : Result Base Cause) → rolled old new matured o ≡ r → rolled old new matured (base_of position s) ≡ r
  rolled_there old new matured r comes = ap (λ (x : Option Base). rolled old new matured x) (sym is) ∙ comes

  pub fits_there : (old : Rows) → IfSome o (Fits old) → IfSome (base_of position s) (Fits old)
  fits_there old fits = subst (λ (x : Option Base). IfSome x (Fits old)) is fits

  pub misfit_there : (old new : Rows) (matured : Option DayParts) (result : Bool) → (IsTrue result ↔ IfSome o (Fits old)) → result ≡ false → IsObstacleAt old new matured (base_of position s) Misfit
  misfit_there old new matured result tells fails =
      let found = misfit old o (λ fits. not_both result (tells.1 fits) fails) in
      (found.0, sym is ∙ found.1, found.2)

-- ---- where what was read is rolled

-- a machine that made the changes, and then had the operator cancel the open cycle, is where the cancelled history leads
pub rests : (cancel : Bool) (was s : State) (past : History) → cancel ≡ true → IsReplayed was past → s ≡ replayed_from was (cancel_of was) → IsLegalFrom was (cancel_of was) → IsReplayed s (rolled_past cancel past)
rests false was s past asked there made legal = absurd (cc)
rests true was s past asked there made legal =
    let more = cancel_of (replayed past) in
    record {
      same = made ∙ ap (λ (t : State). replayed_from t (cancel_of t)) there.same ∙ sym (fold-append (λ (state : State) (entry : Entry). state_after state entry.ask) past.base.state past.entries more);
      legal = legal_behind past.base.state past.entries more there.legal (subst (λ (t : State). IsLegalFrom t (cancel_of t)) there.same legal);
    }

-- a history begins where it did, whatever its operator asks for at its end
begins_there : (cancel : Bool) (h : History) → (rolled_past cancel h).base ≡ h.base
begins_there false h = refl
begins_there true h = refl

module _ (cancel : Bool) (was s : State) (past : History) (there : IsReplayed was past) (rests : IsReplayed s (rolled_past cancel past)) (position : ℕ) (at : position ≡ end_of (rolled_past cancel past)) where
  pub rows_stay : s.roster ≡ was.roster
  rows_stay = roster_replayed s (rolled_past cancel past) rests ∙ ap (λ (b : Start). b.state.roster) (begins_there cancel past) ∙ sym (roster_replayed was past there)

  last_is : base_of position s ≡ last_base (rolled_past cancel past)
  last_is = ap (λ n. base_of n s) at ∙ last_of s (rolled_past cancel past) rests

  pub rests_writable : (rows : Rows) → IsWritable rows past.base.state → IsWritable rows (rolled_past cancel past).base.state
  rests_writable rows writable = subst (λ (b : Start). IsWritable rows b.state) (sym (begins_there cancel past)) writable

  pub rolled_at_rest : (new : Rows) (matured : Option DayParts) (r : Result Base Cause) → rolled s.roster new matured (base_of position s) ≡ r → rolled_history was.roster new matured (rolled_past cancel past) ≡ r
  rolled_at_rest new matured r comes =
      ap (λ (o : Option Base). rolled was.roster new matured o) (sym last_is) ∙ ap (λ (rows : Rows). rolled rows new matured (base_of position s)) (sym rows_stay) ∙ comes

  pub fits_at_rest : IfSome (base_of position s) (Fits s.roster) → IfSome (last_base (rolled_past cancel past)) (Fits was.roster)
  fits_at_rest fits =
      subst (λ (o : Option Base). IfSome o (Fits was.roster)) last_is (subst (λ (rows : Rows). IfSome (base_of position s) (Fits rows)) rows_stay fits)

  pub unmade_at_rest : (new : Rows) (matured : Option DayParts) (cause : Unmade) → IsUnmadeAt s.roster new matured (base_of position s) cause → IsUnmade was.roster new matured (rolled_past cancel past) cause
  unmade_at_rest new matured cause is =
      subst (λ (o : Option Base). IsUnmadeAt was.roster new matured o cause) last_is (subst (λ (rows : Rows). IsUnmadeAt rows new matured (base_of position s) cause) rows_stay is)

-- ---- the base over the new rows

module _ (old new : Rows) (matured : Option DayParts) (h : History) (writable : IsWritable old h.base.state) (s : State) (there : IsReplayed s h) (is_old : IsRoster old) (is_new : IsRoster new) where
  module _ (made : Base) (goes_on : rolled_history old new matured h ≡ Ok made) where
    abbrev found : (b : Base) × (last_base h ≡ Some b) × (rolled_base old new matured b ≡ Ok made)
    found = rolled_some old new matured (last_base h) made goes_on

    abbrev base : Base
    base = found.0

    at_end : IsAtRest h × (written (folded h).base ≡ base)
    at_end = last_at_rest h base found.1

    base_written : CanBeWritten base
    base_written = subst CanBeWritten at_end.1 (writable_can_be_written old (folded h).base (folds_are_writable old h writable there.legal at_end.0))

    pub made_can_be_written : CanBeWritten made
    made_can_be_written = can_be_written old new matured base made is_new base_written found.2

    module _ (fits : IfSome (last_base h) (Fits old)) where
      base_fits : Fits old base
      base_fits = subst (λ (o : Option Base). IfSome o (Fits old)) found.1 fits

      pub made_fits : Fits new made
      made_fits = rolled_fits old new matured base made is_old is_new base_fits found.2

      pub is_rolled : (text : List ℕ) → text ≡ journal_of (base_spelling Second made) → ((roster : Rows) → Fits roster made → StandsFor text (begun_history roster made)) → IsRolled old new matured h text
      is_rolled text spelled stands = record {
        base = made;
        goes_on = goes_on;
        nets = λ product member.
            let trades = ap (λ (b : Base). b.trades) at_end.1 in
            subst (λ ts. KeepsPosition old new matured ts made.trades product member) (sym trades) (rolled_keeps old new matured base made is_old found.2 product member);
        writable = fitting_is_writable new made is_new.few_members is_new.few_products made_can_be_written made_fits;
        spelled = spelled;
        stands = stands new made_fits;
      }

-- the machine that made the changes has the old rows
pub same_rows : (old : Rows) (read : Recovered) → IsReplayed read.machine.state read.past → IsWritable old read.past.base.state → read.machine.state.roster ≡ old
same_rows old read there base = roster_replayed read.machine.state read.past there ∙ base.market.same

-- ---- how a roll ends, over a disk that holds what it held

module _ (roster new_roster : List ℕ) (matured : Option DayParts) (cancel : Bool) (files files' : FilesState) (output output' : OutputState) (disk left : DiskState)
    (old new : Rows) (says : SaysRoster files.folder roster old) (are : IsRoster old) (says_new : SaysRoster files.folder new_roster new) (are_new : IsRoster new) (same : left.history ≡ disk.history)
    (read : Recovered) (stands : ContentStandsFor disk.history read.past) (replayed_there : IsReplayed read.machine.state read.past) (base : IsWritable old read.past.base.state) where
  kept : IsKept old disk.history read.past
  kept = record { base = base; legal = replayed_there.legal; stands = stands }

  rows_same : read.machine.state.roster ≡ old
  rows_same = same_rows old read replayed_there base

  over : {P : Rows → Rows → Type 0} → P old new → OverRosters roster new_roster matured cancel files files' output output' disk left P
  over is = (same, (old, says, are, (new, says_new, are_new, is)))

  module _ (text : List ℕ) (is : IsRolled read.machine.state.roster new matured (rolled_past cancel read.past) text) where
    is_there : IsRolled old new matured (rolled_past cancel read.past) text
    is_there = subst (λ (rows : Rows). IsRolled rows new matured (rolled_past cancel read.past) text) rows_same is

    pub rolls : Takes output.taken output'.taken text → RollRuns roster new_roster matured cancel files files' output output' disk left Done
    rolls takes = over (read.past, text, kept, is_there, takes)

    pub rolls_front : TakesFront output.taken output'.taken text → Rose output.faults output'.faults → RollRuns roster new_roster matured cancel files files' output output' disk left SinkFault
    rolls_front takes rose = (over (read.past, text, kept, is_there, takes), rose)

  pub unrolled : (obstacle : Obstacle) → IsObstacle read.machine.state.roster new matured (rolled_past cancel read.past) obstacle → output' ≡ output → RollRuns roster new_roster matured cancel files files' output output' disk left (Unrolled obstacle)
  unrolled obstacle is none = (none, over (read.past, kept, subst (λ (rows : Rows). IsObstacle rows new matured (rolled_past cancel read.past) obstacle) rows_same is))
