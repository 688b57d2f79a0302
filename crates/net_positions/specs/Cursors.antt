-- Cursors into rows, one for each member, that walk what it sold.
use Rattle.std.specs.Prelude.{◌≡◌, ℕ, ◌+◌, ◌*◌, ◌<◌, ◌≤◌, List, length, slice_index, slice_index_or}
use Rattle.network_laws.specs.declared.rows.Row.{Row}
use Rattle.network_laws.specs.Networks.{place}

-- no member's cursor is past what it sold to this buyer
pub record AreCursors (rows : List Row) (cursors : List ℕ) (buyer : ℕ) : Type 0 where
  pub full : length cursors ≡ 256
  pub within : (member : ℕ) → member < 256 → slice_index cursors member ≤ length rows
  pub before : (member k : ℕ) (d : Row) → member < 256 → k < slice_index cursors member → place (slice_index_or rows k d) < member * 65536 + buyer
