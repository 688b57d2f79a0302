-- Where the walk over the rows of limits and of a network stands, and what it finds at a pair.
use Rattle.std.specs.Prelude.{◌≡◌, ℕ, ◌+◌, ◌*◌, ◌/◌, ◌%◌, ◌<◌, ◌≤◌, List, length, slice_get, Option, Some, None, ℤ}
use Rattle.network_laws.specs.declared.rows.Row.{Row}
use Rattle.network_laws.specs.declared.rows.LimitRow.{LimitRow}
use Rattle.network_laws.specs.declared.clash.Clash.{Clash}
use Rattle.network_laws.specs.Networks.{amount_in, place, IsCursor, AreRows}
use Rattle.network_laws.specs.Limits.{lower_in, upper_in, reduced, limit_place, IsLimitCursor, AreLimitRows}
use Rattle.network_laws.specs.Clash.{bounds_clash, price_clash}
use Rattle.dual_certificate.specs.declared.pair_cursor.Pairs.{Pairs}
use Rattle.dual_certificate.specs.declared.pair_cursor.RowCursor.{RowCursor}
use Rattle.dual_certificate.specs.declared.pair_cursor.PairCursor.{PairCursor}
use Rattle.units_core.specs.declared.limits.TheConstants.{MOST_MEMBERS}

-- rows of limits and of a network between the same members
pub record ArePairs (pairs : Pairs) : Type 0 where
  pub few : pairs.members ≤ MOST_MEMBERS
  pub limits : AreLimitRows pairs.members pairs.limits.now
  pub rows : AreRows pairs.members pairs.rows.now

-- the place behind all pairs
abbrev pub no_pair : ℕ
no_pair = 4294967295

-- the place of a row, or that behind all pairs
abbrev pub limit_or_end : Option LimitRow → ℕ
limit_or_end None = no_pair
limit_or_end (Some row) = limit_place row

-- the same of a network's row
abbrev pub row_or_end : Option Row → ℕ
row_or_end None = no_pair
row_or_end (Some row) = place row

-- a cursor has the place of its row, or that behind all pairs
abbrev pub KnowsLimit : List LimitRow → RowCursor → Type 0
KnowsLimit limits cursor = cursor.place ≡ limit_or_end (slice_get limits cursor.at)

-- the same of a network's rows
abbrev pub KnowsRow : List Row → RowCursor → Type 0
KnowsRow rows cursor = cursor.place ≡ row_or_end (slice_get rows cursor.at)

-- it is that of a place
pub record IsAtLimit (limits : List LimitRow) (cursor : RowCursor) (w : ℕ) : Type 0 where
  pub end : cursor.at ≤ length limits
  pub first : IsLimitCursor limits cursor.at w
  pub knows : KnowsLimit limits cursor

-- the same of a network's rows
pub record IsAtRow (rows : List Row) (cursor : RowCursor) (w : ℕ) : Type 0 where
  pub end : cursor.at ≤ length rows
  pub first : IsCursor rows cursor.at w
  pub knows : KnowsRow rows cursor

-- both cursors are those of a place
pub record AreAtPlace (pairs : Pairs) (at : PairCursor) : Type 0 where
  pub limit : IsAtLimit pairs.limits.now at.limit at.place
  pub row : IsAtRow pairs.rows.now at.row at.place

-- which is that of a pair of members, if it is not behind all pairs
pub record IsAtPair (pairs : Pairs) (at : PairCursor) : Type 0 where
  pub cursors : AreAtPlace pairs at
  pub end : at.place ≤ no_pair
  pub seller : at.place < no_pair → at.place / 65536 < pairs.members
  pub buyer : at.place < no_pair → at.place % 65536 < pairs.members

-- a pair has no amount, and may come to nothing else
pub record HasNoRow (pairs : Pairs) (i j : ℕ) : Type 0 where
  pub amount : amount_in pairs.rows.now i j ≡ 0
  pub lower : lower_in pairs.limits.now i j ≡ 0
  pub upper : upper_in pairs.limits.now i j ≡ Some 0

-- no pair at a place from one on and below another has a row
abbrev pub HaveNoRow : Pairs → ℕ → ℕ → Type 0
HaveNoRow pairs from to = (i j : ℕ) → from ≤ i * 65536 + j → i * 65536 + j < to → HasNoRow pairs i j

-- a pair whose amount is out of its bounds
abbrev pub rows_bounds_clash : List LimitRow → List Row → ℕ → ℕ → Option Clash
rows_bounds_clash limits rows i j = bounds_clash i j (amount_in rows i j) (lower_in limits i j) (upper_in limits i j)

-- a pair whose amount could be moved at a gain
abbrev pub rows_price_clash : List LimitRow → List Row → List ℤ → ℕ → ℕ → Option Clash
rows_price_clash limits rows p i j =
    price_clash i j (amount_in rows i j) (lower_in limits i j) (upper_in limits i j) (reduced p i j)
