-- What a walk over a journal's file finds.
use Rattle.std.specs.Prelude.{◌≡◌, ◌≢◌, ◌⊎◌, ◌<◌, ◌≤◌, ℕ, ◌+◌, ◌^◌, List, [], ◌∷◌, ◌++◌, ◌-◌, length, take, drop, min, Option, Some, None}
use Rattle.std.specs.Int.{w32, w64, to_le_bytes}
use Rattle.std.specs.List.{flat_map}
use Rattle.outside.specs.Disk.{History}
use Rattle.journal_core.specs.Holds.{plain_header, slots_header, limit, bytes_at, frame, slot_place, Selects, HasSlots, LeadsTo, IsShort, Holds}
use Rattle.journal_core.specs.Journal.{EndsAs}
use Rattle.journal_core.specs.declared.form.Form.{Form}
use Rattle.journal_core.specs.Lead.{IsLed}
use Rattle.journal_core.specs.declared.walked.Walked.{Walked}
use Rattle.journal_core.specs.declared.fault.JournalFault.{JournalFault}
use Rattle.journal_core.specs.declared.fault.JournalFault.TheVariants.{Damaged, DiskFault, Memory}

-- the records with the places of their gates, of which the first is this one
abbrev pub placed : ℕ → List (List ℕ) → List (ℕ × List ℕ)
placed place [] = []
placed place (bytes ∷ records) = (place, bytes) ∷ placed (place + (5 + length bytes)) records

-- the bytes that a walk read, and the place of the first gate in them
abbrev pub bytes_of : Walked → List ℕ
bytes_of w = w.bytes.items

abbrev pub gate_of : Walked → ℕ
gate_of w = w.gate

-- the base that it found
abbrev pub base_of : Walked → List ℕ
base_of w = take (w.gate - w.base) (drop w.base w.bytes.items)

-- the bytes from the first gate on, up to and with the gate behind the records
abbrev pub records_of : Walked → List ℕ
records_of w = take (min (length w.bytes.items) w.end - w.gate) (drop w.gate w.bytes.items)

-- From a gate at this place on they are the frames of some records, and at the other place neither a gate that is not open nor a
-- record that ends before the limit.
pub record BreaksAt (gate : ℕ) (bytes : List ℕ) (place : ℕ) : Type 0 where
  pub records : List (List ℕ)
  pub tail : List ℕ
  pub split : bytes ≡ flat_map frame records ++ tail
  pub here : place ≡ gate + length (flat_map frame records)
  pub small : place < limit
  pub opens : (shut : ℕ) (rest : List ℕ) → tail ≡ shut ∷ rest → shut ≡ 1
  pub none : (bytes rest : List ℕ) → tail ≡ frame bytes ++ rest → limit ≤ place + (5 + length bytes)

-- a fault of a walk from a gate at this place on
abbrev pub IsBreak : ℕ → List ℕ → JournalFault → Type 0
IsBreak gate bytes (Damaged place) = BreaksAt gate bytes place
IsBreak gate bytes DiskFault = ⊥
IsBreak gate bytes Memory = ⊥

-- the bytes that the walk read are a file of the form that it tells, which has its base and some records, and ends at the place
-- that it tells
abbrev pub IsWalked : Walked → Type 0
IsWalked w = IsLed (bytes_of w) w.form w.base w.gate × ((records : List (List ℕ)) × EndsAs w.form (bytes_of w) w.end (base_of w) records)

-- the bytes begin with no record's length and the record behind it
abbrev pub NamesNoRecord : List ℕ → Type 0
NamesNoRecord body = (bytes rest : List ℕ) → body ≡ to_le_bytes w32 (length bytes) ++ bytes ++ rest → 2 ^ 32 ≤ length bytes

-- the selected slot of a file with slots has this offset
pub record NamesOffset (file : List ℕ) (offset : ℕ) : Type 0 where
  pub which : ℕ
  pub selector : ℕ
  pub header : take 8 file ≡ slots_header
  pub selector_is : bytes_at 8 1 file ≡ selector ∷ []
  pub selects : Selects selector which
  pub slot : bytes_at (slot_place which) 8 file ≡ to_le_bytes w64 offset
  pub small : offset < 2 ^ 64

-- A file that is long enough is damaged at 0 if it begins with neither header; at the offset in its selected slot if that is below
-- 25, or no base stands there that ends before the limit; and else where a gate is due at the place, behind whole records, and
-- there stands neither a gate that is not open nor a record that ends before the limit.
abbrev pub IsDamaged : List ℕ → ℕ → Type 0
IsDamaged file place = (IsShort file → ⊥) × (
    ((place ≡ 0) × (take 8 file ≢ plain_header) × (take 8 file ≢ slots_header))
    ⊎ (NamesOffset file place × ((which : ℕ) (base : List ℕ) (gate : ℕ) → HasSlots which place file base gate → limit ≤ gate))
    ⊎ ((form : Form) × (base : List ℕ) × (gate : ℕ) × (records : List (List ℕ)) × (tail : List ℕ)
    × LeadsTo form file base gate × (drop gate file ≡ flat_map frame records ++ tail) × (place ≡ gate + length (flat_map frame records)) × (place < limit)
    × ((shut : ℕ) (rest : List ℕ) → tail ≡ shut ∷ rest → shut ≡ 1)
    × ((bytes rest : List ℕ) → tail ≡ frame bytes ++ rest → limit ≤ place + (5 + length bytes))))

-- a fault of a walk over this file tells true
abbrev pub IsFault : List ℕ → JournalFault → Type 0
IsFault file (Damaged place) = IsDamaged file place
IsFault file DiskFault = Unit {0}
IsFault file Memory = Unit {0}

-- a fault of what stands before the first gate
abbrev pub IsBadLead : List ℕ → JournalFault → Type 0
IsBadLead file (Damaged place) = IsDamaged file place
IsBadLead file DiskFault = ⊥
IsBadLead file Memory = ⊥

-- no other damage can be told of the file, and it holds nothing
abbrev pub IsOnlyFault : List ℕ → JournalFault → Type 0
IsOnlyFault file (Damaged place) = ((other : ℕ) → IsDamaged file other → other ≡ place) × ((base : List ℕ) (records : List (List ℕ)) → Holds file base records → ⊥)
IsOnlyFault file DiskFault = Unit {0}
IsOnlyFault file Memory = Unit {0}

-- where the disk tells what it holds, that holds what the walk read, and nothing else
abbrev pub FindsRecords : Option History → Walked → Type 0
FindsRecords None w = Unit {0}
FindsRecords (Some h) w =
    ((base : List ℕ) (records : List (List ℕ)) → Holds (bytes_of w) base records → Holds h.content base records)
    × ((base : List ℕ) (records : List (List ℕ)) → Holds h.content base records → Holds (bytes_of w) base records)

-- and the fault tells true, and is the only one
abbrev pub FindsFault : Option History → JournalFault → Type 0
FindsFault None fault = Unit {0}
FindsFault (Some h) fault = IsFault h.content fault × IsOnlyFault h.content fault
