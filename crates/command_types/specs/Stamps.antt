-- Stamps of names: a number that tells a short text from any other, and what a table of them keeps.
use Rattle.std.specs.Prelude.{◌≡◌, ◌≢◌, ℕ, ◌+◌, ◌*◌, ◌<◌, ◌≤◌, nat_le, fold, List, [], length, get_or, map, IsTrue, if◌then◌else◌}
use Rattle.units_core.specs.Name.{is_name}
use Rattle.command_types.specs.Roster.{Rows, IsRoster}

-- a key with one more byte behind it
abbrev pub key_on : ℕ → ℕ → ℕ
key_on key byte = key * 1034 + byte

-- a text's key: the number that its bytes write to the base 1,034
abbrev pub key_number : List ℕ → ℕ
key_number text = fold key_on 0 text

-- a text's key and its size in one number: no two texts of at most six bytes have the same
abbrev pub stamp : List ℕ → ℕ
stamp text = key_number text * 8 + length text + 1

-- what is kept of a name: its stamp where it has at most six bytes, and 0 where it is longer
abbrev pub kept_stamp : List ℕ → ℕ
kept_stamp name = if nat_le (length name) 6 then stamp name else 0

-- the table has of each name at its place what is kept of it, and 0 behind the names
pub record AreStamps (names : List (List ℕ)) (stamps : List ℕ) : Type 0 where
  pub here : (place : ℕ) → place < length names → get_or stamps place 0 ≡ kept_stamp (get_or names place [])
  pub beyond : (place : ℕ) → length names ≤ place → get_or stamps place 0 ≡ 0
  pub named : (place : ℕ) → place < length names → IsTrue (is_name (get_or names place []))

-- what is kept of this name stands at this place, and at each other one what stood there before
pub record IsPut (before after : List ℕ) (place : ℕ) (name : List ℕ) : Type 0 where
  pub here : get_or after place 0 ≡ kept_stamp name
  pub others : (other : ℕ) → other ≢ place → get_or after other 0 ≡ get_or before other 0

-- the rows are a roster's, and its two tables have what is kept of their names
pub record IsIndexed (rows : Rows) (of_members of_products : List ℕ) : Type 0 where
  pub roster : IsRoster rows
  pub members : AreStamps (map (λ row. row.name) rows.members) of_members
  pub products : AreStamps (map (λ row. row.name) rows.products) of_products
