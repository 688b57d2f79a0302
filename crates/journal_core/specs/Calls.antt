-- What a journal's calls tell of its base and its records.
use Rattle.std.specs.Prelude.{ℕ, List, [], ◌∷◌, ◌++◌, Option, Some, None}
use Rattle.outside.specs.Disk.{History}
use Rattle.journal_core.specs.Holds.{Holds}
use Rattle.journal_core.specs.Form.{begun_form}
use Rattle.journal_core.specs.Journal.{DiskHolds, EndsAs, IsAtRest, IsStaged, HoldsAllOrNone, HoldsEither}
use Rattle.journal_core.specs.Moments.{LeavesOnly, MayLeaveYet}
use Rattle.journal_core.specs.declared.form.Form.{Form}
use Rattle.journal_core.specs.declared.staged.Staged.{Staged}

-- from old to new, records were appended to a journal of this form at this place, all at once, or in part: each moment leaves none of
-- them or all
abbrev pub AreAppending : Option History → Option History → Form → ℕ → List (List ℕ) → Type 0
AreAppending old new form end more =
    (base : List ℕ) (records : List (List ℕ)) → IsAtRest old form end base records → LeavesOnly old new (HoldsAllOrNone base records more)

-- until the last moment of it, a crash may leave the records from before
abbrev pub IsAppendedLast : Option History → Option History → Form → ℕ → Type 0
IsAppendedLast old new form end =
    (base : List ℕ) (records : List (List ℕ)) → IsAtRest old form end base records → MayLeaveYet old new (λ image. Holds image base records)

-- they were, and the journal ends at the next place
abbrev pub AreAppended : Option History → Option History → Form → ℕ → ℕ → List (List ℕ) → Type 0
AreAppended old new form end next more =
    (base : List ℕ) (records : List (List ℕ)) → IsAtRest old form end base records → IsAtRest new form next base (records ++ more)

-- the same of the bytes of one
abbrev pub IsAppending : Option History → Option History → Form → ℕ → List ℕ → Type 0
IsAppending old new form end bytes = AreAppending old new form end (bytes ∷ [])

abbrev pub IsAppended : Option History → Option History → Form → ℕ → ℕ → List ℕ → Type 0
IsAppended old new form end next bytes = AreAppended old new form end next (bytes ∷ [])

-- from old to new, the journal was started, or in part
abbrev pub IsStarting : Option History → Option History → Type 0
IsStarting old new =
    (base : List ℕ) (records : List (List ℕ)) → DiskHolds old base records → LeavesOnly old new (λ image. Holds image base records)

-- the content of this form has this base and these records, which end at the place
abbrev pub DiskEndsAs : Option History → Form → ℕ → List ℕ → List (List ℕ) → Type 0
DiskEndsAs None form end base records = Unit {0}
DiskEndsAs (Some h) form end base records = EndsAs form h.content end base records

-- it was, on a file of this form, where its records end
abbrev pub IsStarted : Option History → Option History → Form → Type 0
IsStarted old new form =
    (end : ℕ) (base : List ℕ) (records : List (List ℕ)) → DiskEndsAs old form end base records → IsAtRest new (begun_form form) end base records

-- from old to new, a base was staged in a journal of this form that ends at this place, or in part: the file holds what it held
abbrev pub IsStaging : Option History → Option History → Form → ℕ → Type 0
IsStaging old new form end =
    (base : List ℕ) (records : List (List ℕ)) → IsAtRest old form end base records → LeavesOnly old new (λ image. Holds image base records)

-- it was, and the journal is as before
abbrev pub IsStagedBeside : Option History → Option History → Form → ℕ → Type 0
IsStagedBeside old new form end =
    (base : List ℕ) (records : List (List ℕ)) → IsAtRest old form end base records → IsAtRest new form end base records

-- from old to new, the journal of this form was switched to what was staged, or in part
abbrev pub IsSwitching : Option History → Option History → Form → ℕ → Staged → Type 0
IsSwitching old new form end staged =
    (base : List ℕ) (records : List (List ℕ)) (next : List ℕ) → IsAtRest old form end base records → IsStaged old staged next
    → LeavesOnly old new (HoldsEither base records next)

-- it was: it has that base and no records
abbrev pub IsSwitched : Option History → Option History → Staged → Form → ℕ → Type 0
IsSwitched old new staged form end = (next : List ℕ) → IsStaged old staged next → IsAtRest new form end next []
