-- Limits where no member set anything and nothing is held.
use Rattle.std.specs.Prelude.{◌≡◌, ◌≢◌, ℕ, ◌+◌, ◌*◌, ◌<◌, ◌≤◌, ◌==◌, ◌&&◌, not, Bool, List, length, slice_get, slice_index_or, None}
use Rattle.network_laws.specs.declared.rows.Row.{Row}
use Rattle.network_laws.specs.declared.rows.LimitRow.{LimitRow}
use Rattle.network_laws.specs.Networks.{IsCursor, amount_in}
use Rattle.command_types.specs.declared.cycle.Mode.{Mode}
use Rattle.command_types.specs.declared.roster.MemberRow.{MemberRow}
use Rattle.command_types.specs.Tolerances.{is_dealer_row, limit_row, may_grow, pair_upper}
use Rattle.file_market.specs.declared.untouched.SellerPlace.{SellerPlace}

-- the cursor is that of the pair
pub record IsAtPlace (network : List Row) (at : SellerPlace) : Type 0 where
  pub row_end : at.row_at ≤ length network
  pub row : IsCursor network at.row_at (at.seller * 65536 + at.buyer)

-- the row at the cursor, which is the seller's
pub record IsNext (network : List Row) (at : SellerPlace) (row : Row) : Type 0 where
  pub within : at.row_at < length network
  pub is : row ≡ slice_index_or network at.row_at row
  pub seller : row.seller ≡ at.seller

-- no row of the seller is at the cursor
abbrev pub HasNoNext : List Row → SellerPlace → Type 0
HasNoNext network at = (d : Row) → at.row_at < length network → (slice_index_or network at.row_at d).seller ≢ at.seller

-- the pair may grow: two different members, of whom the buyer is a dealer among these buyers
abbrev pub grows_with : List MemberRow → ℕ → ℕ → Bool
grows_with buyers seller buyer = not (seller == buyer) && is_dealer_row (slice_get buyers buyer)

-- the row of a pair with this amount
abbrev pub row_with : List MemberRow → ℕ → ℕ → ℕ → List LimitRow
row_with buyers seller buyer amount = limit_row seller buyer 0 (pair_upper (grows_with buyers seller buyer) amount None)

-- the row of a pair of a network
abbrev pub seller_row : List MemberRow → List Row → ℕ → ℕ → List LimitRow
seller_row buyers network seller buyer = row_with buyers seller buyer (amount_in network seller buyer)

-- the row of a pair in a mode
abbrev pub market_row : Mode → List MemberRow → List Row → ℕ → ℕ → List LimitRow
market_row mode members network seller buyer =
    limit_row seller buyer 0 (pair_upper (may_grow mode members seller buyer) (amount_in network seller buyer) None)
