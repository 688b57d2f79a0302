-- Where a walk over the rows of a network stands.
use Rattle.std.specs.Prelude.{◌≡◌, ℕ, ◌+◌, ◌*◌, ◌<◌, ◌≤◌, List, length, slice_index_or}
use Rattle.network_laws.specs.declared.rows.Row.{Row}
use Rattle.network_laws.specs.declared.rows.LimitRow.{LimitRow}
use Rattle.residual_graph.specs.declared.next_row.NextRow.{NextRow}

-- a number of its own for each pair
abbrev pub key_of : ℕ → ℕ → ℕ
key_of seller buyer = buyer * 65536 + seller

-- the key is that of the row, where one is left
pub record IsNextRow (rows : List Row) (next : NextRow) : Type 0 where
  pub within : next.at ≤ length rows
  pub key : (d : Row) → next.at < length rows → next.key ≡ key_of (slice_index_or rows next.at d).seller (slice_index_or rows next.at d).buyer
  pub seller : (d : Row) → next.at < length rows → (slice_index_or rows next.at d).seller < 65536

-- the row of this number is that of the pair with these limits
pub record IsRowOf (rows : List Row) (at : ℕ) (limit : LimitRow) : Type 0 where
  pub within : at < length rows
  pub seller : (d : Row) → limit.seller ≡ (slice_index_or rows at d).seller
  pub buyer : (d : Row) → limit.buyer ≡ (slice_index_or rows at d).buyer
