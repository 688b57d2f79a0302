-- Parts of the dual bound.
use Rattle.std.specs.Prelude.{◌≡◌, ℕ, ◌^◌, ◌<◌, None, List, ℤ, pos, neg_ℤ, ◌≤ℤ◌}
use Rattle.network_laws.specs.declared.rows.LimitRow.{LimitRow}
use Rattle.network_laws.specs.Limits.{lower_in, upper_in, reduced, least_cost, int_sum_below}

-- where a pair has no upper bound, its reduced cost is not negative
abbrev pub IsOpenPriced : List LimitRow → List ℤ → ℕ → ℕ → Type 0
IsOpenPriced limits p i j = upper_in limits i j ≡ None → pos 0 ≤ℤ reduced p i j

-- no pair without an upper bound has a negative reduced cost
abbrev pub AreOpenPriced : List LimitRow → List ℤ → ℕ → Type 0
AreOpenPriced limits p n = (i j : ℕ) → i < n → j < n → IsOpenPriced limits p i j

-- the least that the amount of a pair costs
abbrev pub rows_cost : List LimitRow → List ℤ → ℕ → ℕ → ℤ
rows_cost limits p i j = least_cost (reduced p i j) (lower_in limits i j) (upper_in limits i j)

-- the least that the amounts of a seller cost
abbrev pub seller_sum : List LimitRow → List ℤ → ℕ → ℕ → ℤ
seller_sum limits p n i = int_sum_below n (rows_cost limits p i)

-- an integer is at most n from 0
pub record IsBetween (n : ℕ) (z : ℤ) : Type 0 where
  pub low : neg_ℤ (pos n) ≤ℤ z
  pub high : z ≤ℤ pos n

-- some pair of the seller without an upper bound has a negative reduced cost
abbrev pub HasUnpriced : List LimitRow → List ℤ → ℕ → ℕ → Type 0
HasUnpriced limits p n i = (j : ℕ) × (j < n) × (IsOpenPriced limits p i j → ⊥)

-- no pair of the seller is such a one, and this is what its amounts cost at least
abbrev pub IsSellerCost : List LimitRow → List ℤ → ℕ → ℕ → ℤ → Type 0
IsSellerCost limits p n i sum =
    ((j : ℕ) → j < n → IsOpenPriced limits p i j) × (sum ≡ int_sum_below n (rows_cost limits p i)) × IsBetween (2 ^ 106) sum

-- no pair is such a one, and this is what the amounts of all sellers cost at least
abbrev pub IsPairCost : List LimitRow → List ℤ → ℕ → ℤ → Type 0
IsPairCost limits p n sum = AreOpenPriced limits p n × (sum ≡ int_sum_below n (seller_sum limits p n)) × IsBetween (2 ^ 114) sum
