-- What one member can test of a certificate: the pairs in which it has a side, and its net position.
use Rattle.std.specs.Prelude.{◌≡◌, ◌≢◌, ℕ, ◌<◌, ◌≤◌, ◌==◌, ◌||◌, Bool, List, filter, Option, Some, ℤ, pos, ◌≤ℤ◌}
use Rattle.std.specs.Option.{option_or}
use Rattle.network_laws.specs.declared.rows.Row.{Row}
use Rattle.network_laws.specs.declared.rows.LimitRow.{LimitRow}
use Rattle.network_laws.specs.declared.clash.Clash.{Clash}
use Rattle.network_laws.specs.Networks.{NetworkData, at, net}
use Rattle.network_laws.specs.Limits.{LimitsData, lower, upper, IsWithin, IsBelow, reduced}
use Rattle.network_laws.specs.Clash.{first_below, pair_bounds_clash, net_clash, pair_price_clash}

-- whether a member is the seller or the buyer of a row
abbrev pub has_side : ℕ → Row → Bool
has_side m row = row.seller == m || row.buyer == m

-- the same of a row of limits
abbrev pub has_limit_side : ℕ → LimitRow → Bool
has_limit_side m row = row.seller == m || row.buyer == m

-- the rows of a network in which a member has a side
abbrev pub own_network : ℕ → NetworkData → NetworkData
own_network m y = record { members = y.members; rows = filter (has_side m) y.rows }

-- the rows of limits in which it has one
abbrev pub own_limits : ℕ → LimitsData → LimitsData
own_limits m limits = record { members = limits.members; rows = filter (has_limit_side m) limits.rows }

-- what a certificate says of one pair
pub record IsPairCertified (limits : LimitsData) (new : NetworkData) (p : List ℤ) (i j : ℕ) : Type 0 where
  pub above : lower limits i j ≤ at new i j
  pub below : IsWithin (at new i j) (upper limits i j)
  pub growing : IsBelow (at new i j) (upper limits i j) → pos 0 ≤ℤ reduced p i j
  pub falling : lower limits i j < at new i j → reduced p i j ≤ℤ pos 0

-- what it says of one member: of each pair in which it has a side, and of its net position
pub record IsCertifiedFor (limits : LimitsData) (old new : NetworkData) (p : List ℤ) (m : ℕ) : Type 0 where
  pub selling : (j : ℕ) → j < old.members → IsPairCertified limits new p m j
  pub buying : (i : ℕ) → i < old.members → IsPairCertified limits new p i m
  pub keeping : net new m ≡ net old m

-- members m and j can owe nothing to one another
abbrev pub IsApart : LimitsData → ℕ → ℕ → Type 0
IsApart limits m j = (upper limits m j ≡ Some 0) × (upper limits j m ≡ Some 0)

-- member j is m itself, or one with which m may have an amount
abbrev pub IsNear : LimitsData → ℕ → ℕ → Type 0
IsNear limits m j = j ≢ m → IsApart limits m j → ⊥

-- the first clash of a member's two pairs with another
abbrev pub own_pair : (ℕ → ℕ → Option Clash) → ℕ → ℕ → Option Clash
own_pair f m k = option_or (f m k) (f k m)

-- a member's first clash: of its pairs with their bounds, then of its net position, then of its pairs with their reduced costs
abbrev pub first_own_clash : LimitsData → NetworkData → NetworkData → List ℤ → ℕ → Option Clash
first_own_clash limits old new p m =
    option_or (first_below old.members (own_pair (pair_bounds_clash limits new) m)) (option_or (net_clash old new m) (first_below old.members (own_pair (pair_price_clash limits new p) m)))
