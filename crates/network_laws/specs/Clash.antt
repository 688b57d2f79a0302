-- Where a network with potentials is not certified: the first clash.
use Rattle.std.specs.Prelude.{ℕ, zero, suc, Bool, true, false, ◌&&◌, if◌then◌else◌, nat_lt, List, Option, Some, None, ℤ}
use Rattle.std.specs.Option.{option_or}
use Rattle.std.specs.Int.{is_negative, is_positive}
use Rattle.std.specs.Ordering.{int_eq}
use Rattle.network_laws.specs.declared.clash.Clash.{Clash}
use Rattle.network_laws.specs.declared.clash.Clash.TheVariants.{Below, Above, Net, Open, Slack}
use Rattle.network_laws.specs.Networks.{NetworkData, at, net}
use Rattle.network_laws.specs.Limits.{LimitsData, lower, upper, reduced}

-- the first that f gives for the numbers below n
abbrev pub first_below : ℕ → (ℕ → Option Clash) → Option Clash
first_below zero f = None
first_below (suc n) f = option_or (first_below n f) (f n)

-- the first that f gives for the ordered pairs of numbers below n
abbrev pub first_pair : ℕ → (ℕ → ℕ → Option Clash) → Option Clash
first_pair n f = first_below n (λ i. first_below n (f i))

-- whether an amount is above its upper bound; with none, never
abbrev pub is_above : ℕ → Option ℕ → Bool
is_above z None = false
is_above z (Some most) = nat_lt most z

-- whether an amount is below its upper bound; with none, always
abbrev pub is_below : ℕ → Option ℕ → Bool
is_below z None = true
is_below z (Some most) = nat_lt z most

-- what is wrong with an amount z of a pair beside its bounds
abbrev pub bounds_clash : ℕ → ℕ → ℕ → ℕ → Option ℕ → Option Clash
bounds_clash i j z low high =
    if nat_lt z low then Some (Below i j) else (if is_above z high then Some (Above i j) else None)

-- what is wrong with an amount z of a pair beside its bounds and its reduced cost r
abbrev pub price_clash : ℕ → ℕ → ℕ → ℕ → Option ℕ → ℤ → Option Clash
price_clash i j z low high r =
    if is_below z high && is_negative r then Some (Open i j) else (if nat_lt low z && is_positive r then Some (Slack i j) else None)

-- a pair whose amount is out of its bounds
abbrev pub pair_bounds_clash : LimitsData → NetworkData → ℕ → ℕ → Option Clash
pair_bounds_clash limits y i j = bounds_clash i j (at y i j) (lower limits i j) (upper limits i j)

-- a member whose net position is not the old one
abbrev pub net_clash : NetworkData → NetworkData → ℕ → Option Clash
net_clash old new i = if int_eq (net new i) (net old i) then None else Some (Net i)

-- a pair whose amount could be moved at a gain
abbrev pub pair_price_clash : LimitsData → NetworkData → List ℤ → ℕ → ℕ → Option Clash
pair_price_clash limits y p i j = price_clash i j (at y i j) (lower limits i j) (upper limits i j) (reduced p i j)

-- the first clash: of the pairs with their bounds, then of the net positions, then of the pairs with their reduced costs
abbrev pub first_clash : LimitsData → NetworkData → NetworkData → List ℤ → Option Clash
first_clash limits old new p =
    option_or (first_pair old.members (pair_bounds_clash limits new)) (option_or (first_below old.members (net_clash old new)) (first_pair old.members (pair_price_clash limits new p)))
