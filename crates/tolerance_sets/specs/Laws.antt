-- The laws of the limits, as statements.
use Rattle.std.specs.Prelude.{◌≡◌, ℕ, ◌<◌, ◌≤◌, Bool, false, List, length, All, Option, Some, None, is_some, IsTrue, ℤ}
use Rattle.network_laws.specs.Networks.{NetworkData, IsNetwork, at, gross, floor_m, AreInRange}
use Rattle.network_laws.specs.Limits.{lower, upper, IsWithinLimits, IsCertified, AreLimits}
use Rattle.network_laws.specs.Laws.{HasNoFloor, IsCycle}
use Rattle.command_types.specs.declared.cycle.Mode.{Mode}
use Rattle.command_types.specs.declared.cycle.Mode.TheVariants.{Free}
use Rattle.command_types.specs.declared.roster.MemberRow.{MemberRow}
use Rattle.command_types.specs.declared.tolerance.ToleranceRow.{ToleranceRow}
use Rattle.command_types.specs.declared.proof.Whose.{Whose}
use Rattle.command_types.specs.declared.proof.Whose.TheVariants.{Seller, Buyer, Hold, Now, Nobody}
use Rattle.command_types.specs.declared.trade.Side.TheVariants.{Out, In}
use Rattle.command_types.specs.MemberProofs.{whose_lower, whose_upper}
use Rattle.command_types.specs.Tolerances.{limits_of, floor_in, ceiling_in, raised_to, pair_floor, pair_ceiling, pair_lower, pair_upper, may_grow}
use Rattle.units_core.specs.declared.limits.TheConstants.{MOST_MEMBERS}

-- a network of so many members lies within the limits that are made for it
abbrev pub NetworkIsWithin : Type 0
NetworkIsWithin =
    (mode : Mode) (members : List MemberRow) (settings : List ToleranceRow) (product : ℕ) (network held : NetworkData) → network.members ≡ length members →
    IsWithinLimits (limits_of mode members settings product network held) network

-- no pair holds more than its amount
abbrev pub IsHeldOf : ℕ → NetworkData → NetworkData → Type 0
IsHeldOf members network held = (i j : ℕ) → i < members → j < members → at held i j ≤ at network i j

-- where that is so, no lower bound is below what is held
abbrev pub HeldIsKept : Type 0
HeldIsKept =
    (mode : Mode) (members : List MemberRow) (settings : List ToleranceRow) (product : ℕ) (network held : NetworkData) → IsHeldOf (length members) network held → (i j : ℕ) → i < length members →
    j < length members → at held i j ≤ lower (limits_of mode members settings product network held) i j

-- the bounds of a pair, from its amount, what is held of it and both members' settings
abbrev pub BoundsAreThePairs : Type 0
BoundsAreThePairs =
    (mode : Mode) (members : List MemberRow) (settings : List ToleranceRow) (product : ℕ) (network held : NetworkData) (i j : ℕ) → i < length members → j < length members →
    (lower (limits_of mode members settings product network held) i j ≡ pair_lower (at network i j) (pair_floor settings product i j) (at held i j))
    × (upper (limits_of mode members settings product network held) i j ≡ pair_upper (may_grow mode members i j) (at network i j) (pair_ceiling settings product i j))

-- whose a lower bound is has set or holds as much; nobody's is 0
abbrev pub IsLowerOf : Whose → ℕ → ℕ → ℕ → ℕ → Type 0
IsLowerOf Nobody low held seller buyer = low ≡ 0
IsLowerOf Hold low held seller buyer = low ≤ held
IsLowerOf Seller low held seller buyer = low ≤ seller
IsLowerOf Buyer low held seller buyer = low ≤ buyer
IsLowerOf Now low held seller buyer = ⊥

-- whose an upper bound is set a ceiling that makes it; that of the amount is one of a pair that may not grow, and nobody's is none
abbrev pub IsUpperOf : Whose → Bool → Option ℕ → ℕ → Option ℕ → Option ℕ → Type 0
IsUpperOf Nobody grows high now seller buyer = high ≡ None
IsUpperOf Now grows high now seller buyer = (grows ≡ false) × (high ≡ Some now)
IsUpperOf Seller grows high now seller buyer = IsTrue (is_some seller) × (high ≡ raised_to now seller)
IsUpperOf Buyer grows high now seller buyer = IsTrue (is_some buyer) × (high ≡ raised_to now buyer)
IsUpperOf Hold grows high now seller buyer = ⊥

-- each bound of a pair is of whom it is told to be
abbrev pub BoundsHaveOwners : Type 0
BoundsHaveOwners =
    (mode : Mode) (members : List MemberRow) (settings : List ToleranceRow) (product : ℕ) (network held : NetworkData) (i j : ℕ) → i < length members → j < length members →
    let low = lower (limits_of mode members settings product network held) i j in
    let high = upper (limits_of mode members settings product network held) i j in
    let floor_out = floor_in settings i product j Out in
    let most_out = ceiling_in settings i product j Out in
    let most_in = ceiling_in settings j product i In in
    IsLowerOf (whose_lower low (at held i j) floor_out) low (at held i j) floor_out (floor_in settings j product i In)
    × IsUpperOf (whose_upper (may_grow mode members i j) most_out most_in) (may_grow mode members i j) high (at network i j) most_out most_in

-- the limits of a network are limits
abbrev pub LimitsAreGood : Type 0
LimitsAreGood =
    (mode : Mode) (members : List MemberRow) (settings : List ToleranceRow) (product : ℕ) (network held : NetworkData) → length members ≤ MOST_MEMBERS → IsNetwork network →
    AreLimits (limits_of mode members settings product network held)

-- no member set a floor for a pair of the product
abbrev pub AreNoFloors : ℕ → List ToleranceRow → ℕ → Type 0
AreNoFloors members settings product = (i j : ℕ) → i < members → j < members → pair_floor settings product i j ≡ 0

-- none set a ceiling
abbrev pub AreNoCeilings : ℕ → List ToleranceRow → ℕ → Type 0
AreNoCeilings members settings product = (i j : ℕ) → i < members → j < members → pair_ceiling settings product i j ≡ None

-- nothing is held
abbrev pub IsNothingHeld : ℕ → NetworkData → Type 0
IsNothingHeld members held = (i j : ℕ) → i < members → j < members → at held i j ≡ 0

-- then each pair may fall to 0, in each mode
abbrev pub NothingIsKept : Type 0
NothingIsKept =
    (mode : Mode) (members : List MemberRow) (settings : List ToleranceRow) (product : ℕ) (network held : NetworkData) → AreNoFloors (length members) settings product →
    IsNothingHeld (length members) held → HasNoFloor (limits_of mode members settings product network held)

-- in free mode, with no floors, no ceilings and nothing held, a certified network has no more gross than the positive net positions
abbrev pub FreeModeReachesFloor : Type 0
FreeModeReachesFloor =
    (members : List MemberRow) (settings : List ToleranceRow) (product : ℕ) (network held new : NetworkData) (p : List ℤ) → AreInRange new.members new.rows →
    AreNoFloors (length members) settings product → AreNoCeilings (length members) settings product → IsNothingHeld (length members) held →
    IsCertified (limits_of Free members settings product network held) network new p → gross new ≡ floor_m network

-- where each pair may fall to 0, no directed cycle of positive amounts is left in a certified network, in each mode
abbrev pub NoCycleIsLeft : Type 0
NoCycleIsLeft =
    (mode : Mode) (members : List MemberRow) (settings : List ToleranceRow) (product : ℕ) (network held new : NetworkData) (p : List ℤ) →
    let limits = limits_of mode members settings product network held in HasNoFloor limits → IsCertified limits network new p →
    (ks : List ℕ) → All (λ k. k < new.members) ks → IsCycle new ks → ⊥
