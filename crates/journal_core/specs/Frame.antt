-- The frames of records.
use Rattle.std.specs.Prelude.{ℕ, ◌-◌, List, [], ◌∷◌, ◌++◌, length, take, drop}
use Rattle.std.specs.Int.{w32, to_le_bytes}
use Rattle.std.specs.List.{flat_map}
use Rattle.journal_core.specs.Holds.{frame}

-- what a record's frame has behind its gate, and the closed gate behind it
abbrev pub staged : List ℕ → List ℕ
staged bytes = to_le_bytes w32 (length bytes) ++ bytes ++ 0 ∷ []

-- the record in such bytes
abbrev pub record_in : List ℕ → List ℕ
record_in bytes = take (length bytes - 5) (drop 4 bytes)

-- the frames of records behind one another, and the closed gate behind them
abbrev pub framed : List (List ℕ) → List ℕ
framed records = flat_map frame records ++ 0 ∷ []

-- how many bytes the frames of records take
abbrev pub frames_length : List (List ℕ) → ℕ
frames_length records = length (flat_map frame records)
