-- Limits, the networks that they admit, and the certificate: the duality of minimum-cost flow, as in
-- Ahuja, Magnanti and Orlin, Network Flows. Potentials are in units of gross per unit moved.
use Rattle.std.specs.Prelude.{◌≡◌, ℕ, zero, suc, ◌+◌, ◌*◌, ◌<◌, ◌≤◌, ◌==◌, ◌&&◌, if◌then◌else◌, Bool, List, [], ◌∷◌, length, Option, Some, None, slice_index_or, All, AllPairs, ◌≢◌, ℤ, pos, negsuc, ◌+ℤ◌, ◌-ℤ◌, ◌*ℤ◌, ◌≤ℤ◌}
use Rattle.network_laws.specs.declared.rows.LimitRow.{LimitRow}
use Rattle.network_laws.specs.Networks.{NetworkData, at, gross, net, AreInRange}
use Rattle.units_core.specs.declared.limits.TheConstants.{MOST_MEMBERS}

-- a number of members, and the bounds of their pairs
pub record LimitsData : Type 0 where
  pub members : ℕ
  pub rows : List LimitRow

-- where a row stands in the order by seller and buyer
abbrev pub limit_place : LimitRow → ℕ
limit_place row = row.seller * 65536 + row.buyer

-- whether a row is that of a pair
abbrev pub is_for : ℕ → ℕ → LimitRow → Bool
is_for i j row = row.seller == i && row.buyer == j

-- the lower bound of a pair; a pair without a row has 0
abbrev pub lower_in : List LimitRow → ℕ → ℕ → ℕ
lower_in [] i j = 0
lower_in (row ∷ rows) i j = if is_for i j row then row.lower else lower_in rows i j

-- the upper bound of a pair, if it has one; a pair without a row has 0
abbrev pub upper_in : List LimitRow → ℕ → ℕ → Option ℕ
upper_in [] i j = Some 0
upper_in (row ∷ rows) i j = if is_for i j row then row.upper else upper_in rows i j

-- the same of limits
abbrev pub lower : LimitsData → ℕ → ℕ → ℕ
lower limits i j = lower_in limits.rows i j

-- the same of limits
abbrev pub upper : LimitsData → ℕ → ℕ → Option ℕ
upper limits i j = upper_in limits.rows i j

-- not above the upper bound; with none, always
abbrev pub IsWithin : ℕ → Option ℕ → Type 0
IsWithin z None = Unit {0}
IsWithin z (Some most) = z ≤ most

-- below the upper bound; with none, always
abbrev pub IsBelow : ℕ → Option ℕ → Type 0
IsBelow z None = Unit {0}
IsBelow z (Some most) = z < most

-- each amount of a network is within its pair's bounds
pub record IsWithinLimits (limits : LimitsData) (y : NetworkData) : Type 0 where
  pub above : (i j : ℕ) → i < y.members → j < y.members → lower limits i j ≤ at y i j
  pub below : (i j : ℕ) → i < y.members → j < y.members → IsWithin (at y i j) (upper limits i j)

-- a network within the limits in which each member has its old net position
pub record IsAdmissible (limits : LimitsData) (old new : NetworkData) : Type 0 where
  pub limit_members : limits.members ≡ old.members
  pub new_members : new.members ≡ old.members
  pub within : IsWithinLimits limits new
  pub nets : (i : ℕ) → i < old.members → net new i ≡ net old i

-- admissible, and no admissible network has less gross
pub record IsLeast (limits : LimitsData) (old new : NetworkData) : Type 0 where
  pub admissible : IsAdmissible limits old new
  pub least : (z : NetworkData) → AreInRange z.members z.rows → IsAdmissible limits old z → gross new ≤ gross z

-- the potential of member i
abbrev pub potential : List ℤ → ℕ → ℤ
potential p i = slice_index_or p i (pos 0)

-- the reduced cost of a pair: what a unit of its amount costs beside the potentials
abbrev pub reduced : List ℤ → ℕ → ℕ → ℤ
reduced p i j = (pos 1 -ℤ potential p i) +ℤ potential p j

-- admissible, and complementary slackness: below the upper bound no reduced cost is negative, and
-- above the lower bound none is positive
pub record IsCertified (limits : LimitsData) (old new : NetworkData) (p : List ℤ) : Type 0 where
  pub admissible : IsAdmissible limits old new
  pub growing : (i j : ℕ) → i < old.members → j < old.members → IsBelow (at new i j) (upper limits i j) → pos 0 ≤ℤ reduced p i j
  pub falling : (i j : ℕ) → i < old.members → j < old.members → lower limits i j < at new i j → reduced p i j ≤ℤ pos 0

-- a sum of integers over the numbers below n
abbrev pub int_sum_below : ℕ → (ℕ → ℤ) → ℤ
int_sum_below zero f = pos 0
int_sum_below (suc n) f = int_sum_below n f +ℤ f n

-- a sum over all ordered pairs of numbers below n
abbrev pub int_sum_pairs : ℕ → (ℕ → ℕ → ℤ) → ℤ
int_sum_pairs n f = int_sum_below n (λ i. int_sum_below n (λ j. f i j))

-- the least of r * z, for z from the lower to the upper bound; with no upper bound r is not negative
abbrev pub least_cost : ℤ → ℕ → Option ℕ → ℤ
least_cost (pos r) low high = pos (r * low)
least_cost (negsuc r) low (Some high) = negsuc r *ℤ pos high
least_cost (negsuc r) low None = pos 0

-- no pair without an upper bound has a negative reduced cost
abbrev pub HasBound : LimitsData → List ℤ → Type 0
HasBound limits p =
    (i j : ℕ) → i < limits.members → j < limits.members → upper limits i j ≡ None → pos 0 ≤ℤ reduced p i j

-- the potential of member i times its net position
abbrev pub member_cost : List ℤ → NetworkData → ℕ → ℤ
member_cost p y i = potential p i *ℤ net y i

-- the least that the amount of a pair costs
abbrev pub pair_cost : LimitsData → List ℤ → ℕ → ℕ → ℤ
pair_cost limits p i j = least_cost (reduced p i j) (lower limits i j) (upper limits i j)

-- the dual bound, in the contract's currency unit
abbrev pub bound_of : LimitsData → NetworkData → List ℤ → ℤ
bound_of limits old p = int_sum_below old.members (member_cost p old) +ℤ int_sum_pairs old.members (pair_cost limits p)

-- what each row of limits keeps by itself
pub record IsGoodLimit (members : ℕ) (row : LimitRow) : Type 0 where
  pub seller : row.seller < members
  pub buyer : row.buyer < members
  pub different : row.seller ≢ row.buyer
  pub not_crossed : IsWithin row.lower row.upper

-- each row stands after those before it
abbrev pub IsRisingLimits : List LimitRow → Type 0
IsRisingLimits rows = AllPairs (λ a b. limit_place a < limit_place b) rows

-- what the rows of limits keep
pub record AreLimitRows (members : ℕ) (rows : List LimitRow) : Type 0 where
  pub good : All (IsGoodLimit members) rows
  pub rising : IsRisingLimits rows

-- what limits keep
pub record AreLimits (limits : LimitsData) : Type 0 where
  pub few : limits.members ≤ MOST_MEMBERS
  pub rows : AreLimitRows limits.members limits.rows

-- where row number m is the first at or behind a place, or the rows' end is
pub record IsLimitCursor (rows : List LimitRow) (m w : ℕ) : Type 0 where
  pub before : (k : ℕ) (d : LimitRow) → k < m → limit_place (slice_index_or rows k d) < w
  pub behind : (k : ℕ) (d : LimitRow) → m ≤ k → k < length rows → w ≤ limit_place (slice_index_or rows k d)
