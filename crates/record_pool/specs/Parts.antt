-- How the records of a journal are parted by the one that turns it.
use Rattle.std.specs.Prelude.{◌≡◌, ℕ, ◌+◌, ◌≤◌, List, ◌++◌, length, map, take, drop}
use Rattle.command_types.specs.declared.spelling.Spelling.{Spelling}
use Rattle.command_types.specs.declared.spelling.Spelling.TheVariants.{First, Second}
use Rattle.recovery.specs.Bodies.{Written, changes_in, spelling_after}
use Rattle.record_pool.specs.declared.parts.Parts.{Parts}

abbrev pub in_first : List ℕ → Written
in_first bytes = (First, bytes)

abbrev pub in_second : List ℕ → Written
in_second bytes = (Second, bytes)

-- the changes of records of which the first ones are of the first spelling, and those behind some that are passed over of the second
abbrev pub parted : List (List ℕ) → ℕ → ℕ → List Written
parted records first skipped = map in_first (take first records) ++ map in_second (drop (first + skipped) records)

-- these are the parts of records of a journal that begins in a spelling
pub record AreParts (start : Spelling) (records : List (List ℕ)) (parts : Parts) : Type 0 where
  pub changes : changes_in start records ≡ parted records parts.first parts.skipped
  pub spelling : parts.spelling ≡ spelling_after start records
  pub front : parts.spelling ≡ First → (parts.first ≡ length records) × (parts.skipped ≡ 0)
  pub within : parts.first + parts.skipped ≤ length records
