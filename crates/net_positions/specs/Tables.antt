-- Tables of what each member sold and bought.
use Rattle.std.specs.Prelude.{◌≡◌, ℕ, ◌-◌, ◌<◌, List, length, slice_index}
use Rattle.network_laws.specs.declared.rows.Row.{Row}
use Rattle.network_laws.specs.Networks.{NetworkData, at, sold_in, bought_in}

-- the tables have what each number below 256 sold and bought in the rows
pub record AreTotals (rows : List Row) (sold bought : List ℕ) : Type 0 where
  pub sold_full : length sold ≡ 256
  pub bought_full : length bought ≡ 256
  pub sold_each : (i : ℕ) → i < 256 → slice_index sold i ≡ sold_in rows i
  pub bought_each : (i : ℕ) → i < 256 → slice_index bought i ≡ bought_in rows i

-- the positive part of the net position that the tables have for member i
abbrev pub positive_at : List ℕ → List ℕ → ℕ → ℕ
positive_at sold bought i = slice_index sold i - slice_index bought i

-- what of a row the amount the other way does not cancel
abbrev pub unmatched_part : NetworkData → Row → ℕ
unmatched_part y row = row.amount - at y row.buyer row.seller
