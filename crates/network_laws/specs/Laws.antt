-- The laws of the certificate, as statements.
use Rattle.std.specs.Prelude.{◌≡◌, ◌≢◌, ◌↔◌, ℕ, ◌<◌, List, [], ◌∷◌, All, None, ℤ, pos, ◌≤ℤ◌}
use Rattle.network_laws.specs.Networks.{NetworkData, at, gross, floor_m, AreInRange}
use Rattle.network_laws.specs.Limits.{LimitsData, lower, upper, IsAdmissible, IsLeast, IsCertified, HasBound, bound_of}
use Rattle.network_laws.specs.Clash.{first_clash}

-- a certified network has the least gross of all admissible ones
abbrev pub CertifiedIsLeast : Type 0
CertifiedIsLeast =
    (limits : LimitsData) (old new : NetworkData) (p : List ℤ) → AreInRange new.members new.rows → IsCertified limits old new p → IsLeast limits old new

-- the dual bound of a certificate is the gross of its network
abbrev pub BoundIsGross : Type 0
BoundIsGross =
    (limits : LimitsData) (old new : NetworkData) (p : List ℤ) → AreInRange new.members new.rows → IsCertified limits old new p → bound_of limits old p ≡ pos (gross new)

-- a dual bound is at most the gross of each admissible network
abbrev pub BoundIsBelow : Type 0
BoundIsBelow =
    (limits : LimitsData) (old new : NetworkData) (p : List ℤ) → AreInRange new.members new.rows → HasBound limits p → IsAdmissible limits old new → bound_of limits old p ≤ℤ pos (gross new)

-- another admissible network with the same gross is certified by the same potentials
abbrev pub CertificateIsShared : Type 0
CertificateIsShared =
    (limits : LimitsData) (old new other : NetworkData) (p : List ℤ) → AreInRange new.members new.rows → AreInRange other.members other.rows → IsCertified limits old new p →
    IsAdmissible limits old other → gross other ≡ gross new → IsCertified limits old other p

-- every lower bound is 0
abbrev pub HasNoFloor : LimitsData → Type 0
HasNoFloor limits = (i j : ℕ) → i < limits.members → j < limits.members → lower limits i j ≡ 0

-- no pair of different members has an upper bound
abbrev pub HasNoCeiling : LimitsData → Type 0
HasNoCeiling limits = (i j : ℕ) → i < limits.members → j < limits.members → i ≢ j → upper limits i j ≡ None

-- where nothing limits the amounts, a certified network has no more gross than the positive net positions
abbrev pub FreeLimitsReachFloor : Type 0
FreeLimitsReachFloor =
    (limits : LimitsData) (old new : NetworkData) (p : List ℤ) → AreInRange new.members new.rows → HasNoFloor limits → HasNoCeiling limits → IsCertified limits old new p → gross new ≡ floor_m old

-- from member i a positive amount is sold to the first of the list, from each to the next, and from the last to j
abbrev pub SellsAlong : NetworkData → ℕ → List ℕ → ℕ → Type 0
SellsAlong y i [] j = 0 < at y i j
SellsAlong y i (k ∷ ks) j = (0 < at y i k) × SellsAlong y k ks j

-- each of a list of members sells a positive amount to the next, and the last to the first
abbrev pub IsCycle : NetworkData → List ℕ → Type 0
IsCycle y [] = ⊥
IsCycle y (i ∷ ks) = SellsAlong y i ks i

-- where every lower bound is 0, no directed cycle of positive amounts is left in a certified network
abbrev pub NoCycleIsLeft : Type 0
NoCycleIsLeft =
    (limits : LimitsData) (old new : NetworkData) (p : List ℤ) → HasNoFloor limits → IsCertified limits old new p → (ks : List ℕ) → All (λ k. k < new.members) ks → IsCycle new ks → ⊥

-- a network is certified exactly where no clash is found
abbrev pub NoClashIsCertified : Type 0
NoClashIsCertified =
    (limits : LimitsData) (old new : NetworkData) (p : List ℤ) → limits.members ≡ old.members → new.members ≡ old.members → (first_clash limits old new p ≡ None) ↔ IsCertified limits old new p
