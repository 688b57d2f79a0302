-- A house behind a call of several commands.
use Rattle.std.proofs.Common.{◌≡◌, ℕ, ◌+◌, ◌≤◌, true, List, [], ◌∷◌, ◌++◌, length, Option, refl, sym, ◌∙◌, subst, ap, arith}
use Rattle.std.proofs.lemmas.Bool.{false≢true}
use Rattle.std.specs.List.{AllZip}
use Rattle.command_types.specs.declared.ask.Entry.{Entry}
use Rattle.command_types.specs.declared.figures.JournalFigures.{JournalFigures}
use Rattle.command_types.specs.declared.figures.State.{State}
use Rattle.command_types.specs.History.{History, longer}
use Rattle.command_types.specs.Sizes.{frames_size}
use Rattle.command_types.specs.Spelling.{Spells}
use Rattle.command_types.specs.declared.spelling.Spelling.TheVariants.{Second}
use Rattle.outside.specs.Disk as disks
use Rattle.journal_core.specs.Calls.{AreAppended, AreAppending}
use Rattle.journal_core.specs.Holds.{limit}
use Rattle.journal_core.specs.Moments.{LeavesOnly}
use Rattle.journal_core.specs.declared.form.Form.{Form}
use Rattle.cycle_states.specs.Replayed.{IsReplayed}
use Rattle.house.specs.Front.{IsRunningAt}
use Rattle.house.specs.House.{JournalNow, IsHouse, Keeps, bytes_of, house_of}
use Rattle.house.specs.Storing.{any_kept, AreStored, AreStoredAs, StandsForAllOrNone}
use Rattle.house.proofs.JournalFacts.{append_adds_all, append_leaves_all}
use Rattle.house.proofs.KeepFacts.{bytes_more}
use Rattle.house.proofs.StoringFacts.{stored_as}

-- ---- the append of some changes, one or more

pub adds_all : (old new : Option disks.History) (form : Form) (end next : ℕ) (h : History) (records : List (List ℕ)) (entries : List Entry) → any_kept entries ≡ true → AllZip (Spells Second) records entries
    → end + frames_size entries ≤ limit → AreAppending old new form end records → AreAppended old new form end next records → AreStoredAs old form end h → AreStoredAs new form next (longer h entries)
adds_all old new form end next h records [] any spells room appending appended stored = absurd (false≢true any)
adds_all old new form end next h records (entry ∷ others) any spells room appending appended stored = append_adds_all old new form end next h records entry others spells room appending appended stored

pub leaves_all : (old new : Option disks.History) (form : Form) (end : ℕ) (h : History) (records : List (List ℕ)) (entries : List Entry) → any_kept entries ≡ true → AllZip (Spells Second) records entries
    → end + frames_size entries ≤ limit → AreAppending old new form end records → AreStoredAs old form end h → LeavesOnly old new (StandsForAllOrNone h entries)
leaves_all old new form end h records [] any spells room appending stored = absurd (false≢true any)
leaves_all old new form end h records (entry ∷ others) any spells room appending stored = append_leaves_all old new form end h records entry others spells room appending stored

-- ---- a house

module _ (s : State) (now : JournalNow) (h : History) (opening : ℕ) (journal : JournalFigures) (disk : Option disks.History) (count : ℕ) (house : IsHouse s now (house_of h opening journal [] disk count)) where
  pub running : IsRunningAt (house_of h opening journal [] disk count) s now.size
  running = record { replayed = house.replayed; bytes = sym house.sized; opened = house.keeps.opened; runs = refl }

  -- all changes were made
  module _ (then : State) (next : JournalNow) (more : List Entry) (then_disk : Option disks.History) (then_count : ℕ) (sized : next.size ≡ now.size + frames_size more)
      (stored : AreStoredAs then_disk next.form next.size (longer h more)) where
    pub stored_there : AreStored then_disk (bytes_of (house_of h opening journal [] disk count) + frames_size more) (longer h more)
    stored_there =
        let bytes : next.size ≡ bytes_of (house_of h opening journal [] disk count) + frames_size more = omega (arith, sized, house.sized) in
        subst (λ (n : ℕ). AreStored then_disk n (longer h more)) bytes (stored_as then_disk next.form next.size (longer h more) stored)

    pub made_house : IsReplayed then (longer h more) → next.sound ≡ true → Keeps (house_of (longer h more) opening journal [] then_disk then_count)
        → IsHouse then next (house_of (longer h more) opening journal [] then_disk then_count)
    made_house replayed is_sound keeps = record {
      replayed = replayed;
      sized = let e = bytes_more h opening journal disk count house.keeps more in omega (arith, sized, house.sized, e);
      stored = λ _. stored;
      sound = λ _. is_sound;
      keeps = keeps;
    }

  -- the disk failed on them
  pub stopped_house : (next : JournalNow) (kept : List Entry) (then_disk : Option disks.History) (then_count : ℕ) → any_kept kept ≡ true → next.size ≡ now.size → Keeps (house_of h opening journal kept then_disk then_count)
      → IsHouse s next (house_of h opening journal kept then_disk then_count)
  stopped_house next [] then_disk then_count any same keeps = absurd (false≢true any)
  stopped_house next (entry ∷ others) then_disk then_count any same keeps =
      record { replayed = house.replayed; sized = same ∙ house.sized; stored = λ none. absurd cc; sound = λ none. absurd cc; keeps = keeps }
