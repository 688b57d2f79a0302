-- The records of a file that are still to be read.
use Rattle.std.specs.Prelude.{◌≡◌, ◌≢◌, ◌⊎◌, ◌<◌, ℕ, ◌+◌, List, [], ◌∷◌, ◌++◌, length}
use Rattle.std.specs.List.{flat_map}
use Rattle.journal_core.specs.Holds.{frame, limit}

-- The bytes from a gate at this place on are the frames of these records, a gate that is not open, and anything. Each
-- record ends before the limit.
pub record GoesOn (place : ℕ) (bytes : List ℕ) (records : List (List ℕ)) : Type 0 where
  pub gate : ℕ
  pub rest : List ℕ
  pub split : bytes ≡ flat_map frame records ++ gate ∷ rest
  pub closed : gate ≢ 1
  pub within : place + length (flat_map frame records) < limit

-- these records are ahead of the bytes at this place, and none where there are no bytes
abbrev pub AreAhead : ℕ → List ℕ → List (List ℕ) → Type 0
AreAhead place bytes records = ((bytes ≡ []) × (records ≡ [])) ⊎ GoesOn place bytes records

-- the record is the first of these, whose first has its gate at this place, and the others are ahead of the rest
pub record IsNext (place : ℕ) (records : List (List ℕ)) (bytes : List ℕ) (next : ℕ) (rest : List ℕ) : Type 0 where
  pub others : List (List ℕ)
  pub split : records ≡ bytes ∷ others
  pub behind : next ≡ place + (5 + length bytes)
  pub ahead : AreAhead next rest others
