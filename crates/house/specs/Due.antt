-- A fold that is due, before its disk is asked.
use Rattle.std.specs.Prelude.{◌≡◌, ◌⊎◌, ◌≤◌, ℕ, List, length, Option, Some, None}
use Rattle.command_types.specs.declared.base.Base.{Base}
use Rattle.command_types.specs.declared.spelling.Spelling.{Spelling}
use Rattle.command_types.specs.Bases.{written}
use Rattle.command_types.specs.Folds.{folded}
use Rattle.command_types.specs.History.{History}
use Rattle.outside.specs.Disk as disks
use Rattle.journal_core.specs.Form.{IsSlots}
use Rattle.journal_core.specs.Holds.{limit}
use Rattle.journal_core.specs.Moments.{LeavesOnly}
use Rattle.journal_core.specs.declared.form.Form.{Form}
use Rattle.journal_core.specs.declared.journal.Journal.{Journal}
use Rattle.recovery.specs.StandsFor.{StandsForBase, StandsFor}
use Rattle.house.specs.declared.folding.Folding.{Folding}
use Rattle.house.specs.Folding.{MayBeFolded, fold_bytes}
use Rattle.house.specs.Storing.{AreStoredIn, AreWrittenIn}

-- the history may be folded exactly where something is written, which is its fold's base
abbrev pub IsDueBase : History → Option Base → Type 0
IsDueBase h None = MayBeFolded h → ⊥
IsDueBase h (Some base) = MayBeFolded h × (base ≡ written (folded h).base)

-- these bytes are those of the base of the history's fold, and stand for it
abbrev pub IsFoldOf : History → List ℕ → Type 0
IsFoldOf h bytes = (bytes ≡ fold_bytes h) × StandsForBase bytes (folded h).base

-- In a file of this form the history may be folded where there is a fold, which is its own. Where there is none, the form has no slots,
-- or the history may not be folded, or its fold's base has more bytes than a journal.
abbrev pub IsDue : Form → History → Option Folding → Type 0
IsDue form h None = IsSlots form → MayBeFolded h → length (fold_bytes h) ≤ limit → ⊥
IsDue form h (Some folding) = IsSlots form × MayBeFolded h × IsFoldOf h folding.frame × (folding.size ≡ length folding.frame)

-- From old to new a journal was folded to these bytes, or in part: a crash at any moment of it leaves what stands for the history that
-- it had, or for its fold,
abbrev pub FoldsOnly : {D : Type 0} → Option disks.History → Journal D → List ℕ → Option disks.History → Type 0
FoldsOnly old journal bytes new =
    (h : History) (last : Spelling) → IsFoldOf h bytes → AreWrittenIn old journal last h → LeavesOnly old new (λ image. StandsFor image h ⊎ StandsFor image (folded h))

-- and once it is done, it has the fold.
abbrev pub StoresFold : {D : Type 0} → Option disks.History → Journal D → List ℕ → Option disks.History → Journal D → Type 0
StoresFold old journal bytes new later = (h : History) (last : Spelling) → IsFoldOf h bytes → AreWrittenIn old journal last h → AreStoredIn new later (folded h)
