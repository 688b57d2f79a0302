-- What a journal's file holds.
use Rattle.std.specs.Prelude.{◌≡◌, ◌≢◌, ◌⊎◌, ◌<◌, ◌≤◌, ℕ, ◌+◌, ◌==◌, List, [], ◌∷◌, ◌++◌, length, take, drop, codes, if◌then◌else◌}
use Rattle.std.specs.Int.{w32, w64, to_le_bytes}
use Rattle.std.specs.List.{flat_map}
use Rattle.units_core.specs.declared.limits.TheConstants.{MOST_JOURNAL}
use Rattle.journal_core.specs.declared.form.Form.{Form}
use Rattle.journal_core.specs.declared.form.Form.TheVariants.{Short, Plain, SlotsShort, Slots}

-- the first bytes of a plain journal, and of one with slots
abbrev pub plain_header : List ℕ
plain_header = codes "OTCJRNL1"

abbrev pub slots_header : List ℕ
slots_header = codes "OTCJRNLC"

-- the most bytes that a journal has
abbrev pub limit : ℕ
limit = MOST_JOURNAL

-- the bytes at a place, so many of them
abbrev pub bytes_at : ℕ → ℕ → List ℕ → List ℕ
bytes_at place count file = take count (drop place file)

-- the bytes that a record takes: an open gate, its length as four bytes with the lowest first, and its own bytes
abbrev pub frame : List ℕ → List ℕ
frame record_bytes = 1 ∷ to_le_bytes w32 (length record_bytes) ++ record_bytes

-- the place of a slot: slot 1 is the second, and slot 0 the first
abbrev pub slot_place : ℕ → ℕ
slot_place which = if which == 1 then 17 else 9

-- the slot that a selector selects: 1 selects slot 1, and any other byte slot 0
abbrev pub Selects : ℕ → ℕ → Type 0
Selects selector which = ((selector ≡ 1) × (which ≡ 1)) ⊎ ((selector ≢ 1) × (which ≡ 0))

-- The file begins with the header, a selector and two slots. The slot that it selects has the offset at which a base's length
-- stands, as four bytes, and then the base. The first gate is behind it.
pub record HasSlots (which offset : ℕ) (file base : List ℕ) (place : ℕ) : Type 0 where
  pub selector : ℕ
  pub header : take 8 file ≡ slots_header
  pub selector_is : bytes_at 8 1 file ≡ selector ∷ []
  pub selects : Selects selector which
  pub slot : bytes_at (slot_place which) 8 file ≡ to_le_bytes w64 offset
  pub low : 25 ≤ offset
  pub based : bytes_at offset (4 + length base) file ≡ to_le_bytes w32 (length base) ++ base
  pub place_is : place ≡ offset + 4 + length base

-- what stands in a file of this form before its first gate, which is at the place
abbrev pub LeadsTo : Form → List ℕ → List ℕ → ℕ → Type 0
LeadsTo Short file base place = ⊥
LeadsTo Plain file base place = (take 8 file ≡ plain_header) × (base ≡ []) × (place ≡ 8)
LeadsTo SlotsShort file base place = ⊥
LeadsTo (Slots which offset) file base place = HasSlots which offset file base place

-- The file begins as its form says, with this base. Behind it are the frames of these records, a gate that is not open, and
-- anything. The last gate stands before the limit.
pub record IsJournal (form : Form) (file base : List ℕ) (records : List (List ℕ)) : Type 0 where
  pub place : ℕ
  pub leads : LeadsTo form file base place
  pub gate : ℕ
  pub rest : List ℕ
  pub split : drop place file ≡ flat_map frame records ++ gate ∷ rest
  pub closed : gate ≢ 1
  pub within : place + length (flat_map frame records) < limit

-- the place just past that gate
abbrev pub end_in : {form : Form} {file base : List ℕ} {records : List (List ℕ)} → IsJournal form file base records → ℕ
end_in {form} {file} {base} {records} j = j.place + length (flat_map frame records) + 1

-- the file is too short to hold anything: it has fewer than ten bytes, or fewer than 31 where it begins as one with slots
abbrev pub IsShort : List ℕ → Type 0
IsShort file = (length file < 10) ⊎ ((length file < 31) × (take 8 file ≡ slots_header))

-- a file that is too short holds no base and no records, and a longer one those that stand in it
abbrev pub Holds : List ℕ → List ℕ → List (List ℕ) → Type 0
Holds file base records =
    (IsShort file × (base ≡ []) × (records ≡ []))
    ⊎ ((IsShort file → ⊥) × ((form : Form) × IsJournal form file base records))
