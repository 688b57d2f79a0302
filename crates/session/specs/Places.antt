-- The places of members, by their names, and what a table of sums has of a draft's rows.
use Rattle.std.specs.Prelude.{◌≡◌, ℕ, ◌+◌, ◌<◌, ◌≤◌, ◌==◌, ◌&&◌, Bool, false, List, length, slice_index_or, Option, Some, None, IfSome, if◌then◌else◌}
use Rattle.std.specs.Str.{bytes_eq}
use Rattle.command_types.specs.declared.roster.MemberRow.{MemberRow}
use Rattle.command_types.specs.Session.{DraftRow, draft_amount, draft_sum}
use Rattle.pair_table.specs.PairSums.{PairSums, sum_in, gross_in}

-- the place is this one
abbrev pub is_there : Option ℕ → ℕ → Bool
is_there None i = false
is_there (Some place) i = place == i

-- the name of the member at a place, or that of another where there is none
abbrev pub name_at : List MemberRow → ℕ → MemberRow → List ℕ
name_at members i other = (slice_index_or members i other).name

-- the place of the member that has the name; none where none has it
pub record IsPlaceOf (members : List MemberRow) (name : List ℕ) (place : Option ℕ) : Type 0 where
  pub within : IfSome place (λ p. p < length members)
  pub is : (i : ℕ) (other : MemberRow) → i < length members → is_there place i ≡ bytes_eq name (name_at members i other)

-- what a row has for a product and a pair of names
abbrev pub pair_part : List ℕ → DraftRow → List ℕ → List ℕ → ℕ
pair_part product row seller buyer =
    if bytes_eq row.product product && bytes_eq row.seller seller && bytes_eq row.buyer buyer then row.amount else 0

-- what a row has for a product
abbrev pub product_part : List ℕ → DraftRow → ℕ
product_part product row = if bytes_eq row.product product then row.amount else 0

-- the table has what the row has for each pair of members more than before
pub record HasMore (members : List MemberRow) (product : List ℕ) (row : DraftRow) (old new : PairSums) : Type 0 where
  pub count : new.members ≡ old.members
  pub sums : (i j : ℕ) (other : MemberRow) → i < length members → j < length members → sum_in new i j ≡ sum_in old i j + pair_part product row (name_at members i other) (name_at members j other)
  pub gross : gross_in new ≤ gross_in old + product_part product row

-- the table has what the rows have for each pair of members
pub record HasRows (members : List MemberRow) (product : List ℕ) (rows : List DraftRow) (table : PairSums) : Type 0 where
  pub count : table.members ≡ length members
  pub sums : (i j : ℕ) (other : MemberRow) → i < length members → j < length members → sum_in table i j ≡ draft_amount product (name_at members i other) (name_at members j other) rows
  pub gross : gross_in table ≤ draft_sum product rows
