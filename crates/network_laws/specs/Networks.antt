-- What a network is, and its figures. Amounts are in the contract's currency unit.
use Rattle.std.specs.Prelude.{ℕ, zero, suc, ◌+◌, ◌-◌, ◌*◌, ◌<◌, ◌≤◌, ◌==◌, ◌&&◌, if◌then◌else◌, List, sum_by, All, AllPairs, length, slice_index_or, ◌≢◌, ℤ, pos, ◌-ℤ◌}
use Rattle.network_laws.specs.declared.rows.Row.{Row}
use Rattle.units_core.specs.declared.limits.TheConstants.{MOST_GROSS, MOST_MEMBERS}

-- a number of members, and what they sold to one another
pub record NetworkData : Type 0 where
  pub members : ℕ
  pub rows : List Row

-- where a row stands in the order by seller and buyer
abbrev pub place : Row → ℕ
place row = row.seller * 65536 + row.buyer

-- what one row has for a pair
abbrev pub pair_part : ℕ → ℕ → Row → ℕ
pair_part i j row = if row.seller == i && row.buyer == j then row.amount else 0

-- the amount that seller i sold to buyer j
abbrev pub amount_in : List Row → ℕ → ℕ → ℕ
amount_in rows i j = sum_by (pair_part i j) rows

-- the same of a network
abbrev pub at : NetworkData → ℕ → ℕ → ℕ
at y i j = amount_in y.rows i j

-- what one row says that member i sold
abbrev pub sold_part : ℕ → Row → ℕ
sold_part i row = if row.seller == i then row.amount else 0

-- what one row says that member i bought
abbrev pub bought_part : ℕ → Row → ℕ
bought_part i row = if row.buyer == i then row.amount else 0

-- the sum of the amounts that member i sold
abbrev pub sold_in : List Row → ℕ → ℕ
sold_in rows i = sum_by (sold_part i) rows

-- the sum of the amounts that member i bought
abbrev pub bought_in : List Row → ℕ → ℕ
bought_in rows i = sum_by (bought_part i) rows

-- the same of a network
abbrev pub sold : NetworkData → ℕ → ℕ
sold y i = sold_in y.rows i

-- the same of a network
abbrev pub bought : NetworkData → ℕ → ℕ
bought y i = bought_in y.rows i

-- the sum of the amounts of rows
abbrev pub total : List Row → ℕ
total rows = sum_by (λ row. row.amount) rows

-- the gross notional: the sum of all amounts
abbrev pub gross : NetworkData → ℕ
gross y = total y.rows

-- the net position of member i: what it sold less what it bought
abbrev pub net : NetworkData → ℕ → ℤ
net y i = pos (sold y i) -ℤ pos (bought y i)

-- a sum over the numbers below n
abbrev pub sum_below : ℕ → (ℕ → ℕ) → ℕ
sum_below zero f = 0
sum_below (suc n) f = sum_below n f + f n

-- the sum of the positive net positions
abbrev pub floor_m : NetworkData → ℕ
floor_m y = sum_below y.members (λ i. sold y i - bought y i)

-- the gross above that sum
abbrev pub excess : NetworkData → ℕ
excess y = gross y - floor_m y

-- what of two members' amounts does not cancel
abbrev pub pair_gap : NetworkData → ℕ → ℕ → ℕ
pair_gap y j i = (at y i j - at y j i) + (at y j i - at y i j)

-- what does not cancel between member j and each member below it
abbrev pub member_gaps : NetworkData → ℕ → ℕ
member_gaps y j = sum_below j (pair_gap y j)

-- the sum over the unordered pairs of members of what does not cancel
abbrev pub bilateral : NetworkData → ℕ
bilateral y = sum_below y.members (member_gaps y)

-- the members of each row are below n
abbrev pub AreInRange : ℕ → List Row → Type 0
AreInRange n rows = All (λ row. (row.seller < n) × (row.buyer < n)) rows

-- what each row of a network keeps by itself
pub record IsGoodRow (members : ℕ) (row : Row) : Type 0 where
  pub seller : row.seller < members
  pub buyer : row.buyer < members
  pub different : row.seller ≢ row.buyer
  pub positive : 1 ≤ row.amount

-- each row stands after those before it
abbrev pub IsRising : List Row → Type 0
IsRising rows = AllPairs (λ a b. place a < place b) rows

-- what the rows of a network keep
pub record AreRows (members : ℕ) (rows : List Row) : Type 0 where
  pub good : All (IsGoodRow members) rows
  pub rising : IsRising rows
  pub within : total rows ≤ MOST_GROSS

-- what a network keeps
pub record IsNetwork (y : NetworkData) : Type 0 where
  pub few : y.members ≤ MOST_MEMBERS
  pub rows : AreRows y.members y.rows

-- where row number m is the first at or behind a place, or the rows' end is
pub record IsCursor (rows : List Row) (m w : ℕ) : Type 0 where
  pub before : (k : ℕ) (d : Row) → k < m → place (slice_index_or rows k d) < w
  pub behind : (k : ℕ) (d : Row) → m ≤ k → k < length rows → w ≤ place (slice_index_or rows k d)
