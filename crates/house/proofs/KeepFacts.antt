-- What a house keeps behind changes that were put on the disk together, made or not.
use Rattle.std.proofs.Common.{◌≡◌, ℕ, ◌+◌, ◌≤◌, List, [], ◌∷◌, ◌++◌, length, take, drop, Option, refl, sym, ◌∙◌, subst, ap, arith, length-append}
use Rattle.std.proofs.lemmas.Bool.{false≢true}
use Rattle.std.proofs.lemmas.List.{drop-append-le, take-append-le}
use Rattle.std.proofs.lemmas.List.Sums.{sum_by-append}
use Rattle.command_types.specs.declared.ask.Entry.{Entry}
use Rattle.command_types.specs.declared.figures.JournalFigures.{JournalFigures}
use Rattle.command_types.specs.History.{History, IsLegal, longer}
use Rattle.command_types.specs.Sizes.{frame_size, frames_size}
use Rattle.outside.specs.Disk as disks
use Rattle.outside.specs.Faults.{Rose}
use Rattle.journal_core.specs.Moments.{LeavesOnly, MayLeaveYet}
use Rattle.recovery.specs.StandsFor.{StandsFor}
use Rattle.house.specs.Folding.{OpensWith}
use Rattle.house.specs.Storing.{most_together, AreOnDisk, AreStored, StandsForAllOrNone, moment_of}
use Rattle.house.specs.House.{HouseView, bytes_of, first_of, house_of, Keeps}
use Rattle.house.proofs.StoringFacts.{stored_leaves, on_disk_more, on_disk_broken, moments_rise, tells_on}
use Rattle.house.proofs.GoingFacts.{back_more, back_kept, kept_now, none_kept}
use Rattle.house.proofs.ChangeFacts.{rose_from}

module _ (h : History) (opening : ℕ) (journal : JournalFigures) (disk : Option disks.History) (count : ℕ) (keeps : Keeps (house_of h opening journal [] disk count)) where
  abbrev was : HouseView
  was = house_of h opening journal [] disk count

  abbrev first : History
  first = first_of journal

  since : journal.first_moment ≤ moment_of disk
  since = omega (arith, keeps.moments.0, keeps.moments.1)

  pub bytes_more : (more : List Entry) → bytes_of was + frames_size more ≡ journal.size + frames_size (drop opening (h.entries ++ more))
  bytes_more more =
      let split : frames_size (drop opening (h.entries ++ more)) ≡ frames_size (drop opening h.entries) + frames_size more =
      ap frames_size (drop-append-le opening h.entries more keeps.opened) ∙ sum_by-append (λ (e : Entry). frame_size e.ask) (drop opening h.entries) more in
      omega (arith, split)

  module _ (then_disk : Option disks.History) (then_count : ℕ) (yet : MayLeaveYet disk then_disk (λ image. StandsFor image h)) (rises : count ≤ then_count) where
    -- made
    pub keeps_more : (more : List Entry) → length more ≤ most_together → IsLegal (longer h more) → LeavesOnly disk then_disk (StandsForAllOrNone h more)
        → AreStored then_disk (bytes_of was + frames_size more) (longer h more) → Keeps (house_of (longer h more) opening journal [] then_disk then_count)
    keeps_more more few legal leaves stored =
        let P : List ℕ → Type 0 = StandsForAllOrNone h more in
        let front : take opening (h.entries ++ more) ≡ take opening h.entries = take-append-le opening h.entries more keeps.opened in
        let done : HouseView = house_of (longer h more) opening journal [] then_disk then_count in
        let there : AreStored then_disk (bytes_of done) (longer h more) = subst (λ (n : ℕ). AreStored then_disk n (longer h more)) (bytes_more more) stored in
        record {
          legal = legal;
          opened = omega (arith, keeps.opened, length-append h.entries more);
          first = subst (λ (es : List Entry). OpensWith first (record h { entries = es })) (sym front) keeps.first;
          first_legal = keeps.first_legal;
          few = omega (arith, keeps.few, ap length front);
          tells = tells_on disk then_disk P leaves ∙ keeps.tells;
          on_disk = on_disk_more opening first h keeps.opened journal.first_moment disk then_disk (bytes_of was) (bytes_of done) more keeps.on_disk leaves there;
          moments = (keeps.moments.0, omega (arith, keeps.moments.1, moments_rise disk then_disk P leaves));
          leaves = λ _. stored_leaves then_disk (bytes_of done) (longer h more) there;
          few_kept = omega arith;
          kept_legal = legal;
          leaves_kept = none_kept then_disk (longer h more) (stored_leaves then_disk (bytes_of done) (longer h more) there);
          never_back = back_more journal.first_moment opening first h keeps.opened disk then_disk more few since keeps.never_back leaves yet;
          counted = omega (arith, keeps.counted, rises);
          stopped = λ never. absurd (false≢true never);
        }

    -- or not, since the disk failed
    pub keeps_none : (entry : Entry) (others : List Entry) → length (entry ∷ others) ≤ most_together → IsLegal (longer h (entry ∷ others))
        → LeavesOnly disk then_disk (StandsForAllOrNone h (entry ∷ others)) → Rose count then_count → Keeps (house_of h opening journal (entry ∷ others) then_disk then_count)
    keeps_none entry others few legal leaves rose =
        let P : List ℕ → Type 0 = StandsForAllOrNone h (entry ∷ others) in
        record {
          legal = keeps.legal;
          opened = keeps.opened;
          first = keeps.first;
          first_legal = keeps.first_legal;
          few = keeps.few;
          tells = tells_on disk then_disk P leaves ∙ keeps.tells;
          on_disk = on_disk_broken opening first h keeps.opened journal.first_moment disk then_disk (bytes_of was) entry others keeps.on_disk leaves;
          moments = (keeps.moments.0, omega (arith, keeps.moments.1, moments_rise disk then_disk P leaves));
          leaves = λ none. absurd cc;
          few_kept = few;
          kept_legal = legal;
          leaves_kept = kept_now disk then_disk h entry others leaves;
          never_back = back_kept journal.first_moment opening first h keeps.opened disk then_disk entry others few since keeps.never_back leaves yet;
          counted = omega (arith, keeps.counted, rises);
          stopped = λ _. rose_from journal.faults count then_count keeps.counted rose;
        }
