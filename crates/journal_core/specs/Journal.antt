-- Journals on a disk.
use Rattle.std.specs.Prelude.{◌≡◌, ◌⊎◌, ◌<◌, ℕ, Bool, List, [], ◌∷◌, ◌++◌, length, take, Option, Some, None}
use Rattle.outside.specs.Disk.{History, IsSettled, overwritten}
use Rattle.journal_core.specs.Holds.{slots_header, IsJournal, end_in, IsShort, Holds, Selects}
use Rattle.journal_core.specs.Form.{IsSlots, other_slot}
use Rattle.journal_core.specs.declared.form.Form.{Form}
use Rattle.journal_core.specs.declared.form.Form.TheVariants.{Short, Plain, SlotsShort, Slots}
use Rattle.journal_core.specs.declared.journal.Journal.{Journal}
use Rattle.journal_core.specs.declared.staged.Staged.{Staged}

-- the disk below a journal, its form, the place just past its closed gate, what was staged, and whether none of its calls failed
abbrev pub disk_of : {D : Type 0} → Journal D → D
disk_of j = j.disk

abbrev pub form_of : {D : Type 0} → Journal D → Form
form_of j = j.form

abbrev pub size_of : {D : Type 0} → Journal D → ℕ
size_of j = j.end

abbrev pub staged_of : {D : Type 0} → Journal D → Option Staged
staged_of j = j.staged

abbrev pub is_sound : {D : Type 0} → Journal D → Bool
is_sound j = j.sound

-- the form of a journal that is switched to what was staged, and its end
abbrev pub form_staged : Staged → Form
form_staged staged = Slots staged.selected staged.offset

abbrev pub end_staged : Staged → ℕ
end_staged staged = staged.end

-- the file has this form, holds these, and a journal on it ends at this place, or will when it is begun
abbrev pub EndsAs : Form → List ℕ → ℕ → List ℕ → List (List ℕ) → Type 0
EndsAs Short file end base records = (length file < 10) × (base ≡ []) × (records ≡ []) × (end ≡ 30)
EndsAs SlotsShort file end base records = (length file < 31) × (take 8 file ≡ slots_header) × (base ≡ []) × (records ≡ []) × (end ≡ 30)
EndsAs Plain file end base records = (j : IsJournal Plain file base records) × (end ≡ end_in j)
EndsAs (Slots which offset) file end base records = (j : IsJournal (Slots which offset) file base records) × (end ≡ end_in j)

-- the form tells a file as short exactly where it is too short to hold anything
abbrev pub IsFormOf : Form → List ℕ → Type 0
IsFormOf Short file = IsShort file
IsFormOf SlotsShort file = IsShort file
IsFormOf Plain file = IsShort file → ⊥
IsFormOf (Slots which offset) file = IsShort file → ⊥

-- Each fact below says nothing where the disk tells nothing.

-- the content has fewer than ten bytes
abbrev pub IsTiny : Option History → Type 0
IsTiny None = Unit {0}
IsTiny (Some h) = length h.content < 10

-- it begins with the header of a file with slots, and holds nothing
abbrev pub IsBare : Option History → Type 0
IsBare None = Unit {0}
IsBare (Some h) = (length h.content < 31) × (take 8 h.content ≡ slots_header)

-- it is as short as this form says
abbrev pub IsShortAs : Form → Option History → Type 0
IsShortAs Short disk = IsTiny disk
IsShortAs SlotsShort disk = IsBare disk
IsShortAs Plain disk = Unit {0}
IsShortAs (Slots which offset) disk = Unit {0}

-- the disk's content holds this base and these records
abbrev pub DiskHolds : Option History → List ℕ → List (List ℕ) → Type 0
DiskHolds None base records = Unit {0}
DiskHolds (Some h) base records = Holds h.content base records

-- the content has this form, and ends at this place
abbrev pub EndsAt : Option History → Form → ℕ → Type 0
EndsAt None form end = Unit {0}
EndsAt (Some h) form end = (base : List ℕ) × (records : List (List ℕ)) × EndsAs form h.content end base records

-- and is short exactly where this form says so
abbrev pub HasForm : Option History → Form → Type 0
HasForm None form = Unit {0}
HasForm (Some h) form = IsFormOf form h.content

-- the disk is settled, and its content is a journal of this form with this base and these records, which ends at this place
abbrev pub IsAtRest : Option History → Form → ℕ → List ℕ → List (List ℕ) → Type 0
IsAtRest None form end base records = Unit {0}
IsAtRest (Some h) form end base records = IsSettled (Some h) × ((j : IsJournal form h.content base records) × (end ≡ end_in j))

-- of some base and some records
abbrev pub IsReady : Option History → Form → ℕ → Type 0
IsReady None form end = Unit {0}
IsReady (Some h) form end = (base : List ℕ) × (records : List (List ℕ)) × IsAtRest (Some h) form end base records

-- with any selector that selects the staged slot, the content is a journal of this base without records, which ends where the
-- staged body does
abbrev pub IsStaged : Option History → Staged → List ℕ → Type 0
IsStaged None staged base = Unit {0}
IsStaged (Some h) staged base =
    (selector : ℕ) → Selects selector staged.selected
    → (j : IsJournal (Slots staged.selected staged.offset) (overwritten 8 (selector ∷ []) h.content) base []) × (staged.end ≡ end_in j)

-- what was staged is of some base, and in the slot that is not selected
abbrev pub IsReadyToSwitch : Option History → Form → Option Staged → Type 0
IsReadyToSwitch disk form None = ⊥
IsReadyToSwitch disk form (Some staged) = IsSlots form × (staged.selected ≡ other_slot form) × ((base : List ℕ) × IsStaged disk staged base)

-- the file holds the records from before, or these and all of some more
abbrev pub HoldsAllOrNone : List ℕ → List (List ℕ) → List (List ℕ) → List ℕ → Type 0
HoldsAllOrNone base records more file = Holds file base records ⊎ Holds file base (records ++ more)

-- the same of one more
abbrev pub HoldsWithOrWithout : List ℕ → List (List ℕ) → List ℕ → List ℕ → Type 0
HoldsWithOrWithout base records bytes = HoldsAllOrNone base records (bytes ∷ [])

-- the file holds what it held, or the staged base without records
abbrev pub HoldsEither : List ℕ → List (List ℕ) → List ℕ → List ℕ → Type 0
HoldsEither base records staged file = Holds file base records ⊎ Holds file staged []
