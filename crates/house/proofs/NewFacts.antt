-- A house that was opened.
use Rattle.std.proofs.Common.{◌≡◌, inl, inr, ℕ, ◌≤◌, Bool, true, false, [], length, Option, Some, None, is_some, refl, sym, ◌∙◌, subst, ap, arith}
use Rattle.command_types.specs.declared.figures.State.{State}
use Rattle.command_types.specs.History.{History, IsLegal}
use Rattle.command_types.specs.Roster.{Rows}
use Rattle.command_types.specs.Sizes.{journal_limit}
use Rattle.outside.specs.Disk as disks
use Rattle.journal_core.specs.Moments.{LeavesOnly}
use Rattle.recovery.proofs.EntryFacts.{one_history}
use Rattle.cycle_laws.specs.Bases.{IsWritable}
use Rattle.cycle_laws.proofs.Bases.{folds_are_writable}
use Rattle.cycle_states.specs.Replayed.{IsReplayed}
use Rattle.house.specs.Folding.{OpensOn, OpensWith, StandsForOne, LeavesOpenedAs, opened_with}
use Rattle.house.specs.Storing.{AreStoredAs, ContentStandsFor, moment_of}
use Rattle.house.specs.House.{JournalNow, IsHouse, house_of, journal_of}
use Rattle.house.specs.Opening.{IsOpened, LeavesOpened}
use Rattle.house.proofs.FoldFacts.{opens_with, opened_as}
use Rattle.house.proofs.OpeningFacts.{opened_house}

opened_replayed : (folded : Bool) (s : State) (h : History) → IsReplayed s h → IsReplayed s (opened_with folded h)
opened_replayed true s h is = record { same = is.same; legal = tt }
opened_replayed false s h is = is

opened_few : (folded : Bool) (h : History) → length h.entries ≤ journal_limit → length (opened_with folded h).entries ≤ journal_limit
opened_few true h few = omega arith
opened_few false h few = few

opened_writable : (roster : Rows) (first h : History) → OpensWith first h → IsWritable roster first.base.state → IsLegal first → IsWritable roster h.base.state
opened_writable roster first h (inl same) writable legal = subst (λ (p : History). IsWritable roster p.base.state) (sym same) writable
opened_writable roster first h (inr (rest, same)) writable legal = subst (λ (p : History). IsWritable roster p.base.state) (sym same) (folds_are_writable roster first writable legal rest)

-- The first history was read of a disk, whose journal was started, and folded or not; one snapshot was made of it, one of the disk when it was taken, and one of the journal.
module _ (s : State) (first : History) (folded : Bool) (now : JournalNow) (o after : Option disks.History) (count : ℕ) (replayed : IsReplayed s first)
    (opens : OpensOn o first (opened_with folded first) now.size) (snap past : History) (opening size faults : ℕ) (taken begun : Option disks.History)
    (snap_is : snap ≡ first) (past_is : past ≡ opened_with folded first) (all : opening ≡ length past.entries) (same_size : size ≡ now.size) (same_count : faults ≡ count) (taken_is : taken ≡ o) (begun_is : begun ≡ after) where
  with_first : OpensWith first (opened_with folded first)
  with_first = opens_with o first (opened_with folded first) now.size opens

  pub new_house : length first.entries ≤ journal_limit → LeavesOnly o after (StandsForOne (opened_with folded first) first) → AreStoredAs after now.form now.size (opened_with folded first)
      → now.sound ≡ true → IsHouse s now (house_of past opening (journal_of size faults taken begun snap) [] after count)
  new_house few leaves stored sound =
      subst (λ (f : History). IsHouse s now (house_of past opening (journal_of size faults taken begun f) [] after count)) (sym snap_is)
      (subst (λ (p : History). IsHouse s now (house_of p opening (journal_of size faults taken begun first) [] after count)) (sym past_is)
      (opened_house s (opened_with folded first) opening now (journal_of size faults taken begun first) o after count (opened_replayed folded s first replayed) (all ∙ ap (λ (p : History). length p.entries) past_is)
      same_size same_count with_first replayed.legal (opened_few folded first few) (ap moment_of taken_is) (ap moment_of begun_is) (ap (λ (x : Option disks.History). is_some x) taken_is) leaves stored sound))

  pub new_opened : (roster : Rows) (before : ℕ) → IsWritable roster first.base.state → ContentStandsFor o first → before ≤ count → IsOpened roster o before (house_of past opening (journal_of size faults taken begun snap) [] after count)
  new_opened roster before writable stands rises =
      subst (λ (f : History). IsOpened roster o before (house_of past opening (journal_of size faults taken begun f) [] after count)) (sym snap_is)
      (subst (λ (p : History). IsOpened roster o before (house_of p opening (journal_of size faults taken begun first) [] after count)) (sym past_is)
      (record {
        first_base = writable;
        first_legal = replayed.legal;
        stands = stands;
        opens = subst (λ (n : ℕ). OpensOn o first (opened_with folded first) n) (sym same_size) opens;
        base = opened_writable roster first (opened_with folded first) with_first writable replayed.legal;
        opening = all ∙ ap (λ (p : History). length p.entries) past_is;
        running = refl;
        tells = ap (λ (x : Option disks.History). is_some x) taken_is;
        first_moment = ap moment_of taken_is;
        moment = ap moment_of begun_is;
        counted = (rises, same_count);
      }))

-- what was left of this history was left of each of the roster that the content stands for
pub leaves_each : (roster : Rows) (o after : Option disks.History) (first : History) → first.base.state.roster ≡ roster → ContentStandsFor o first → LeavesOpenedAs o after first → LeavesOpened roster o after
leaves_each roster None after first same stands leaves = λ h own there. leaves
leaves_each roster (Some disk) after first same stands leaves = λ h own there.
    subst (λ (p : History). LeavesOpenedAs (Some disk) after p) (one_history disk.content first h (same ∙ sym own) stands there) leaves

pub leaves_opened : (roster : Rows) (o after : Option disks.History) (first h : History) (size : ℕ) → first.base.state.roster ≡ roster → ContentStandsFor o first → OpensOn o first h size
    → LeavesOnly o after (StandsForOne h first) → LeavesOpened roster o after
leaves_opened roster o after first h size same stands opens leaves = leaves_each roster o after first same stands (opened_as o after first h size opens leaves)
