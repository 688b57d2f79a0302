-- What a walk finds in front of the first gate.
use Rattle.std.specs.Prelude.{◌≡◌, ◌≢◌, ◌<◌, ◌≤◌, ℕ, ◌+◌, ◌-◌, List, ◌∷◌, ◌++◌, length, take, drop}
use Rattle.std.specs.List.{flat_map}
use Rattle.journal_core.specs.Holds.{slots_header, limit, frame, LeadsTo, IsShort}
use Rattle.journal_core.specs.declared.form.Form.{Form}
use Rattle.journal_core.specs.declared.form.Form.TheVariants.{Short, Plain, SlotsShort, Slots}

-- the file is long enough, and begins with a base that stands from one place to the other, which is that of the first gate
pub record IsLongLed (form : Form) (file : List ℕ) (start gate : ℕ) : Type 0 where
  pub long : IsShort file → ⊥
  pub order : start ≤ gate
  pub within : gate ≤ length file
  pub leads : LeadsTo form file (take (gate - start) (drop start file)) gate
  pub small : gate < limit

-- a file that is too short has no base and no gate, and both places are its end
abbrev pub IsLed : List ℕ → Form → ℕ → ℕ → Type 0
IsLed file Short start gate = (length file < 10) × (start ≡ length file) × (gate ≡ length file)
IsLed file SlotsShort start gate = (length file < 31) × (take 8 file ≡ slots_header) × (start ≡ length file) × (gate ≡ length file)
IsLed file Plain start gate = IsLongLed Plain file start gate
IsLed file (Slots which offset) start gate = IsLongLed (Slots which offset) file start gate

-- From a gate at this place on the bytes are the frames of some records, and a gate that is not open, just before the end.
pub record EndsBehind (gate : ℕ) (bytes : List ℕ) (end : ℕ) : Type 0 where
  pub records : List (List ℕ)
  pub shut : ℕ
  pub rest : List ℕ
  pub split : bytes ≡ flat_map frame records ++ shut ∷ rest
  pub closed : shut ≢ 1
  pub within : gate + length (flat_map frame records) < limit
  pub there : end ≡ gate + length (flat_map frame records) + 1

-- where a journal on a file that begins so ends, or will when it is begun
abbrev pub EndsLed : Form → List ℕ → ℕ → ℕ → Type 0
EndsLed Short file gate end = end ≡ 30
EndsLed SlotsShort file gate end = end ≡ 30
EndsLed Plain file gate end = EndsBehind gate (drop gate file) end
EndsLed (Slots which offset) file gate end = EndsBehind gate (drop gate file) end
