-- The places of records whose frames stand one behind another.
use Rattle.std.specs.Prelude.{◌≡◌, ℕ, ◌+◌, ◌*◌, ◌/◌, ◌<◌, List, length, take, slice_index}
use Rattle.journal_core.specs.Frame.{frames_length}

-- where a record's frame begins: how many bytes those before it take
abbrev pub place_at : List (List ℕ) → ℕ → ℕ
place_at records number = frames_length (take number records)

-- the records, and for how many more there is room without memory
pub record MarksView : Type 0 where
  pub records : List (List ℕ)
  pub room : ℕ

-- the places of the first of each sixteen
pub record AreMarks (records : List (List ℕ)) (places : List ℕ) : Type 0 where
  pub count : length places ≡ (length records + 15) / 16
  pub each : (mark : ℕ) → mark < length places → slice_index places mark ≡ place_at records (16 * mark)
