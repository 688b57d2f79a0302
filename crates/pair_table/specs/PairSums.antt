-- The sums of ordered pairs of members.
use Rattle.std.specs.Prelude.{◌≡◌, ℕ, ◌+◌, ◌*◌, ◌≤◌, List, length, slice_index}
use Rattle.network_laws.specs.declared.rows.Row.{Row}
use Rattle.network_laws.specs.Networks.{sum_below}
use Rattle.command_types.specs.Books.{amount_row}
use Rattle.units_core.specs.declared.limits.TheConstants.{MOST_GROSS, MOST_MEMBERS}

-- a number of members, and a line of 256 sums for each seller, with a sum for each buyer
pub record PairSums : Type 0 where
  pub members : ℕ
  pub sums : List ℕ

-- what seller i sold to buyer j
abbrev pub sum_in : PairSums → ℕ → ℕ → ℕ
sum_in table i j = slice_index table.sums (i * 256 + j)

-- the gross notional: what all sums come to
abbrev pub gross_in : PairSums → ℕ
gross_in table = sum_below table.members (λ i. sum_below table.members (sum_in table i))

-- what each table keeps
pub record IsPairTable (table : PairSums) : Type 0 where
  pub few : table.members ≤ MOST_MEMBERS
  pub size : length table.sums ≡ table.members * 256
  pub different : (i : ℕ) → sum_in table i i ≡ 0
  pub within : gross_in table ≤ MOST_GROSS

-- the row that the cell of a pair gives; 0 gives none
abbrev pub cell_row : List ℕ → ℕ → ℕ → List Row
cell_row sums i j = amount_row i j (slice_index sums (i * 256 + j))
