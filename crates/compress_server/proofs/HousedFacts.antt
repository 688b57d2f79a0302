-- What a script comes to over its disk.
use Rattle.std.proofs.Common.{◌≡◌, ◌∙◌, ◌⊎◌, refl, sym, subst, ap, ℕ, ◌+◌, ◌≤◌, Bool, true, false, List, [], Option, Some, None, is_some, arith}
use Rattle.std.specs.Prelude.{◌≢◌, Result, Ok, Err, IfErr}
use Rattle.outside.specs.Disk.{IsSettled}
use Rattle.outside.specs.Disk as disks
use Rattle.outside.specs.Faults.{Rose}
use Rattle.command_types.specs.declared.ask.Entry.{Entry}
use Rattle.command_types.specs.declared.figures.Figures.{Figures}
use Rattle.command_types.specs.declared.figures.JournalFigures.{JournalFigures}
use Rattle.command_types.specs.declared.figures.State.{State}
use Rattle.command_types.specs.History.{History, end_of}
use Rattle.command_types.specs.Roster.{Rows, IsRoster}
use Rattle.cycle_laws.specs.Histories.{IsMarketBase}
use Rattle.house.specs.Folding.{LeavesOpenedAs, OpensOn}
use Rattle.house.specs.House.{HouseView, figures_of, first_of, is_stopped, bytes_of, Keeps}
use Rattle.house.specs.Opening.{IsOpened, FindsFault, LeavesOpened, StandsForNone}
use Rattle.journal_core.specs.declared.fault.JournalFault.{JournalFault}
use Rattle.journal_core.specs.declared.fault.JournalFault.TheVariants as faults
use Rattle.house.specs.Storing.{any_kept, ContentStandsFor, AreOnDisk, LeavesHistory, LeavesKept, StandsForFront, StandsForKept, NeverGoBack, moment_of}
use Rattle.house.proofs.JournalFacts.{stored_stand}
use Rattle.house.proofs.OpeningFacts.{still_standing, only_opened}
use Rattle.session.specs.declared.serve.SessionEnd.{SessionEnd}
use Rattle.session.specs.declared.serve.SessionEnd.TheVariants.{Ended, SourceFault, SinkFault, Limit, Memory}
use Rattle.compress_server.specs.Housed.{DiskState, disk_of, AtAnyMoment, IsHoused, IsUnopened, IsDamaged, OpeningFails}
use Rattle.compress_server.specs.Files.{FilesState, SaysRoster}
use Rattle.compress_server.specs.Script.{ScriptEnds, end_of_session, ScriptRuns}
use Rattle.compress_server.specs.Seen.{Streams}
use Rattle.compress_server.proofs.EndFacts.{rose_later}
use Rattle.compress_server.proofs.CycleFacts.{keeps_laws}

-- a disk on which nothing was written
pub unopened_still : (rows : Rows) (o now : Option disks.History) (n m : ℕ) → now ≡ o → IsSettled o → IsUnopened rows (disk_of o n) (disk_of now m)
unopened_still rows o now n m same settled = record {
  any_moment = λ h own stands. only_opened o now h (still_standing o now h same settled stands);
  untouched = λ none. same;
}

-- ---- what a house keeps, of its disk

content_stands : (since opening : ℕ) (first : History) (o : Option disks.History) (size : ℕ) (h : History) (kept : List Entry) → AreOnDisk since opening first o size h kept → kept ≡ [] → ContentStandsFor o h
content_stands since opening first None size h kept on none = tt
content_stands since opening first (Some disk) size h kept on none = stored_stand disk size h (on.stored none)

moments_left : (o : Option disks.History) (opening : ℕ) (first : History) (now : Option disks.History) (size : ℕ) (h : History) (kept : List Entry) → is_some now ≡ is_some o → AreOnDisk (moment_of o) opening first now size h kept
    → AtAnyMoment o now (λ image. StandsForFront opening first h image ⊎ StandsForKept h kept image)
moments_left None opening first None size h kept tells on = refl
moments_left None opening first (Some later) size h kept tells on = absurd cc
moments_left (Some disk) opening first None size h kept tells on = absurd cc
moments_left (Some disk) opening first (Some later) size h kept tells on = (on.later, on.each)

abbrev journal_in : JournalFigures → Option JournalFigures → JournalFigures
journal_in other None = other
journal_in other (Some journal) = journal

-- A house was opened with these rows on a disk, and came back with the same figures.
module _ (rows : Rows) (o now : Option disks.History) (before count : ℕ) (roster : IsRoster rows) (v w : HouseView) (is : IsOpened rows o before v)
    (first : Keeps v) (last : Keeps w) (figures : figures_of w ≡ figures_of v) (disk : now ≡ w.disk) (faults : count ≡ w.faults) where
  same_journal : w.journal ≡ v.journal
  same_journal = ap (λ (f : Figures). journal_in w.journal f.journal) figures

  same_opening : w.opening ≡ v.opening
  same_opening = omega (arith, ap (λ (f : Figures). f.opening) figures, ap (λ (f : Figures). f.base.position) figures)

  since : w.journal.first_moment ≡ moment_of o
  since = ap (λ (j : JournalFigures). j.first_moment) same_journal ∙ is.first_moment

  tells_now : is_some w.disk ≡ is_some o
  tells_now = last.tells ∙ ap (λ (j : JournalFigures). j.tells) same_journal ∙ is.tells

  same_first : first_of w.journal ≡ first_of v.journal
  same_first = ap first_of same_journal

  on_disk : AreOnDisk (moment_of o) v.opening (first_of v.journal) w.disk (bytes_of w) w.history w.kept
  on_disk = subst (λ n. AreOnDisk (moment_of o) n (first_of v.journal) w.disk (bytes_of w) w.history w.kept) same_opening
      (subst (λ n. AreOnDisk n w.opening (first_of v.journal) w.disk (bytes_of w) w.history w.kept) since
      (subst (λ (f : History). AreOnDisk w.journal.first_moment w.opening f w.disk (bytes_of w) w.history w.kept) same_first last.on_disk))

  abbrev Left : List ℕ → Type 0
  Left image = StandsForFront v.opening (first_of v.journal) w.history image ⊎ StandsForKept w.history w.kept image

  left_at_any_moment : AtAnyMoment o w.disk Left
  left_at_any_moment = moments_left o v.opening (first_of v.journal) w.disk (bytes_of w) w.history w.kept tells_now on_disk

  goes_on : NeverGoBack (moment_of o) v.opening (first_of v.journal) w.disk w.history w.kept
  goes_on = subst (λ n. NeverGoBack (moment_of o) n (first_of v.journal) w.disk w.history w.kept) same_opening
      (subst (λ n. NeverGoBack n w.opening (first_of v.journal) w.disk w.history w.kept) since
      (subst (λ (f : History). NeverGoBack w.journal.first_moment w.opening f w.disk w.history w.kept) same_first last.never_back))

  market_base : IsMarketBase rows w.history.base.state
  market_base = subst (λ (s : State). IsMarketBase rows s) (sym (ap (λ (f : Figures). f.base.state) figures)) is.base.market

  faults_rose : is_stopped w ≡ true → Rose before count
  faults_rose stopped =
      let counted : w.journal.faults ≡ v.faults = ap (λ (j : JournalFigures). j.faults) same_journal ∙ is.counted.1 in
      let later : Rose v.faults w.faults = subst (λ n. Rose n w.faults) counted (last.stopped stopped) in
      subst (λ n. Rose before n) (sym faults) (rose_later before v.faults w.faults is.counted.0 later)

  pub housed : IsHoused rows (disk_of o before) (disk_of now count) v w
  housed = record {
    opened = is;
    figures = figures;
    legal_first = first.legal;
    legal = last.legal;
    stands = λ none. subst (λ (d : Option disks.History). ContentStandsFor d w.history) (sym disk) (content_stands w.journal.first_moment w.opening (first_of w.journal) w.disk (bytes_of w) w.history w.kept last.on_disk none);
    leaves = λ none. subst (λ (d : Option disks.History). LeavesHistory d w.history) (sym disk) (last.leaves none);
    few_kept = last.few_kept;
    kept_legal = last.kept_legal;
    leaves_kept = subst (λ (d : Option disks.History). LeavesKept d w.history w.kept) (sym disk) last.leaves_kept;
    never_back = subst (λ (d : Option disks.History). NeverGoBack (moment_of o) v.opening (first_of v.journal) d w.history w.kept) (sym disk) goes_on;
    any_moment = subst (λ (d : Option disks.History). AtAnyMoment o d Left) (sym disk) left_at_any_moment;
    stopped = faults_rose;
    first_cycles = keeps_laws rows (first_of v.journal) is.first_base.market is.first_legal;
    cycles = keeps_laws rows w.history market_base last.legal;
  }

-- A house was asked for with a copy of the rows, on the disk once it was attached, which changes nothing.
module _ (rows copy : Rows) (o mid : Option disks.History) (before after : ℕ) (copied : copy ≡ rows) (same : mid ≡ o) (never_fell : before ≤ after) where
  -- none was opened
  pub unopened_later : (now : Option disks.History) (n m : ℕ) → LeavesOpened copy mid now
      → (StandsForNone copy mid → now ≡ mid) → IsUnopened rows (disk_of o n) (disk_of now m)
  unopened_later now n m any untouched = record {
    any_moment = λ h own stands. subst (λ (d : Option disks.History). LeavesOpenedAs d now h) same
        (any h (own ∙ sym copied) (subst (λ (d : Option disks.History). ContentStandsFor d h) (sym same) stands));
    untouched = λ none. untouched (subst (λ (d : Option disks.History). StandsForNone copy d) (sym same) (subst (λ (r : Rows). StandsForNone r o) (sym copied) none)) ∙ same;
  }

  -- it is damaged
  pub damaged_later : (now : Option disks.History) (n m : ℕ) (fault : JournalFault) (place : ℕ) → fault ≡ faults.Damaged place → FindsFault copy mid fault → IsUnopened rows (disk_of o n) (disk_of now m) → now ≡ mid → IsDamaged rows (disk_of o n) (disk_of now m) place
  damaged_later now n m fault place is found unopened stays = record {
    found = subst (λ (r : Rows). FindsFault r o (faults.Damaged place)) copied (subst (λ (d : Option disks.History). FindsFault copy d (faults.Damaged place)) same (subst (λ (f : JournalFault). FindsFault copy mid f) is found));
    unopened = unopened;
    same = stays ∙ same;
  }

  -- so it was, for this fault
  fails_later : (now : Option disks.History) (m : ℕ) (fault : JournalFault) → FindsFault copy mid fault → (fault ≢ faults.DiskFault → now ≡ mid) → (StandsForNone copy mid → now ≡ mid) → LeavesOpened copy mid now →
      (fault ≡ faults.DiskFault → Rose after m) → OpeningFails rows (disk_of o before) (disk_of now m) fault
  fails_later now m (faults.Damaged place) found stays untouched any rose =
      damaged_later now before m (faults.Damaged place) place refl found (unopened_later now before m any untouched) (stays (λ e. absurd cc))
  fails_later now m faults.DiskFault found stays untouched any rose = (unopened_later now before m any untouched, rose_later before after m never_fell (rose refl))
  fails_later now m faults.Memory found stays untouched any rose = unopened_later now before m any untouched

  pub opening_fails : {H D : Type 0} (history : D → Option disks.History) (count : D → ℕ) (result : Result H (JournalFault × D)) → IfErr result (λ e. FindsFault copy mid e.0) → IfErr result (λ e. e.0 ≢ faults.DiskFault → history e.1 ≡ mid) →
      (StandsForNone copy mid → IfErr result (λ e. history e.1 ≡ mid)) → IfErr result (λ e. LeavesOpened copy mid (history e.1)) → IfErr result (λ e. e.0 ≡ faults.DiskFault → Rose after (count e.1)) →
      IfErr result (λ e. OpeningFails rows (disk_of o before) (disk_of (history e.1) (count e.1)) e.0)
  opening_fails history count (Ok house) found stays untouched any rose = tt
  opening_fails history count (Err e) found stays untouched any rose = fails_later (history e.1) (count e.1) e.0 found stays untouched any rose

  -- one was opened, as on the disk that came in
  pub opened_later : (v : HouseView) → IsOpened copy mid after v → IsOpened rows o before v
  opened_later v is = record {
    first_base = (subst (λ (r : Rows). IsOpened r mid after v) copied is).first_base;
    first_legal = is.first_legal;
    stands = subst (λ (d : Option disks.History). ContentStandsFor d (first_of v.journal)) same is.stands;
    opens = subst (λ (d : Option disks.History). OpensOn d (first_of v.journal) v.history v.journal.size) same is.opens;
    base = (subst (λ (r : Rows). IsOpened r mid after v) copied is).base;
    opening = is.opening;
    running = is.running;
    tells = is.tells ∙ ap (λ (d : Option disks.History). is_some d) same;
    first_moment = is.first_moment ∙ ap (λ (d : Option disks.History). moment_of d) same;
    moment = is.moment;
    counted = (omega (arith, never_fell, is.counted.0), is.counted.1);
  }

-- A house that was just opened: its history ends where it was opened, it has the rows, and it runs.
module _ (rows : Rows) (o : Option disks.History) (count : ℕ) (v : HouseView) (is : IsOpened rows o count v) where
  pub at_opening : end_of v.history ≡ (figures_of v).opening
  at_opening = ap (λ n. v.history.base.position + n) (sym is.opening)

  pub has_rows : v.history.base.state.roster ≡ rows
  has_rows = is.base.market.same

  pub runs_yet : is_stopped v ≡ false
  runs_yet = ap any_kept is.running

module _ (clock : ℕ → Bool) (roster : List ℕ) (files files' : FilesState) (before after : Streams) (disk left : DiskState)
    (rows : Rows) (says : SaysRoster files.folder roster rows) (are : IsRoster rows) (v w : HouseView) (housed : IsHoused rows disk left v w) where
  abbrev Ends : SessionEnd → Type 0
  Ends end = ScriptEnds clock v w before.input.flow after.input.flow before.output.taken after.output.taken end

  -- a session over the house is a script
  pub script_runs : (end : SessionEnd) (stopped : Bool) → stopped ≡ is_stopped w → (end ≡ SourceFault → Rose before.input.faults after.input.faults) → (end ≡ SinkFault → Rose before.output.faults after.output.faults) →
      Ends end → ScriptRuns clock roster files files' before after disk left (end_of_session end stopped)
  script_runs Ended false is source sink ends = (rows, says, are, (v, w, housed, (sym is, ends)))
  script_runs Ended true is source sink ends = ((rows, says, are, (v, w, housed, (sym is, ends))), housed.stopped (sym is))
  script_runs SourceFault stopped is source sink ends = ((rows, says, are, (v, w, housed, (tt, ends))), source refl)
  script_runs SinkFault stopped is source sink ends = ((rows, says, are, (v, w, housed, (tt, ends))), sink refl)
  script_runs Limit stopped is source sink ends = (rows, says, are, (v, w, housed, (tt, ends)))
  script_runs Memory stopped is source sink ends = (rows, says, are, (v, w, housed, (tt, ends)))
