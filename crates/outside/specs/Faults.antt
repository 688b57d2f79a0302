-- Counts that rise.
use Rattle.std.specs.Prelude.{◌≡◌, ℕ, ◌+◌, ◌-◌, ◌^◌, ◌<◌, ◌≤◌, ◌==◌, ◌⊎◌, min, Bool, List, Result, OnErr}
use Rattle.std.specs.List.{list_any}

-- a count rose: it is larger than before, or it stands at the largest number that it can keep
abbrev pub Rose : ℕ → ℕ → Type 0
Rose before after = (before < after) ⊎ (after ≡ 2 ^ 64 - 1)

-- a call counts its faults: the count never falls, and it rose where this holds
abbrev pub CountsWhere : Type 0 → ℕ → ℕ → Type 0
CountsWhere failed before after = (before ≤ after) × (failed → Rose before after)

-- the same of a call whose errors are faults, each of them
abbrev pub CountsFault : {T E : Type 0} → Result T E → ℕ → ℕ → Type 0
CountsFault result before after = (before ≤ after) × OnErr result (Rose before after)

-- a count and one more, which stands still at the largest number that it can keep
abbrev pub one_more : ℕ → ℕ
one_more n = min (n + 1) (2 ^ 64 - 1)

-- the call with this number is among those that are to fail
abbrev pub is_listed : ℕ → List ℕ → Bool
is_listed call failing = list_any (λ c. c == call) failing
