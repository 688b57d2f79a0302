-- The laws on what one member can test of a certificate, as statements.
use Rattle.std.specs.Prelude.{◌≡◌, ◌≢◌, ◌↔◌, ℕ, ◌<◌, ◌≤◌, Bool, true, false, List, None, ℤ}
use Rattle.network_laws.specs.Networks.{NetworkData, at, net, sold, gross, sum_below, AreInRange, IsNetwork}
use Rattle.network_laws.specs.Limits.{LimitsData, potential, IsWithinLimits, IsLeast, IsCertified, AreLimits}
use Rattle.dual_certificate.specs.Own.{IsNear, IsCertifiedFor, own_network, own_limits, first_own_clash}

-- ---- what the members say together

-- a network is certified exactly where it is so for each member
abbrev pub CertifiedWhereAllMembersAre : Type 0
CertifiedWhereAllMembersAre =
    (limits : LimitsData) (old new : NetworkData) (p : List ℤ) → limits.members ≡ old.members → new.members ≡ old.members →
    IsCertified limits old new p ↔ ((m : ℕ) → m < old.members → IsCertifiedFor limits old new p m)

-- limits and two networks over the same members, all of them well-formed
pub record AreOfOneMarket (limits : LimitsData) (old new : NetworkData) : Type 0 where
  pub good_limits : AreLimits limits
  pub good_old : IsNetwork old
  pub good_new : IsNetwork new
  pub limit_members : limits.members ≡ old.members
  pub new_members : new.members ≡ old.members

-- a network is certified where it is so for each member but one
abbrev pub CertifiedWhereAllButOneAre : Type 0
CertifiedWhereAllButOneAre =
    (limits : LimitsData) (old new : NetworkData) (p : List ℤ) → AreOfOneMarket limits old new →
    (k : ℕ) → ((m : ℕ) → m < old.members → m ≢ k → IsCertifiedFor limits old new p m) → IsCertified limits old new p

-- a network within the limits that has the new net positions, and the new amounts between the silent members
pub record IsAsWithTheSilent (limits : LimitsData) (new z : NetworkData) (is_silent : ℕ → Bool) : Type 0 where
  pub range : AreInRange z.members z.rows
  pub members : z.members ≡ new.members
  pub within : IsWithinLimits limits z
  pub nets : (i : ℕ) → i < new.members → net z i ≡ net new i
  pub silent : (i j : ℕ) → i < new.members → j < new.members → is_silent i ≡ true → is_silent j ≡ true → at z i j ≡ at new i j

-- where it is certified for each member that is not silent, none of these has less gross
abbrev pub LeastBesideTheSilent : Type 0
LeastBesideTheSilent =
    (limits : LimitsData) (old new : NetworkData) (p : List ℤ) (is_silent : ℕ → Bool) → AreInRange new.members new.rows → new.members ≡ old.members →
    ((m : ℕ) → m < old.members → is_silent m ≡ false → IsCertifiedFor limits old new p m) →
    (z : NetworkData) → IsAsWithTheSilent limits new z is_silent → gross new ≤ gross z

-- the gross is the sum of what each member sold
abbrev pub GrossIsWhatAllSell : Type 0
GrossIsWhatAllSell = (y : NetworkData) → AreInRange y.members y.rows → sum_below y.members (sold y) ≡ gross y

-- ---- what a member needs for its part

-- the rows in which a member has a side are certified for it
abbrev pub IsPartCertified : LimitsData → NetworkData → NetworkData → List ℤ → ℕ → Type 0
IsPartCertified limits old new p m = IsCertifiedFor (own_limits m limits) (own_network m old) (own_network m new) p m

-- what a certificate says of a member rests on the rows in which it has a side alone
abbrev pub OwnRowsAreEnough : Type 0
OwnRowsAreEnough =
    (limits : LimitsData) (old new : NetworkData) (p : List ℤ) (m : ℕ) → IsPartCertified limits old new p m ↔ IsCertifiedFor limits old new p m

-- and on the potentials of the member and of those with which it may have an amount
abbrev pub NearPotentialsAreEnough : Type 0
NearPotentialsAreEnough =
    (limits : LimitsData) (old new : NetworkData) (p q : List ℤ) (m : ℕ) → m < old.members →
    ((j : ℕ) → j < old.members → IsNear limits m j → potential q j ≡ potential p j) → IsCertifiedFor limits old new p m → IsCertifiedFor limits old new q m

-- a network is certified for a member exactly where the member finds no clash
abbrev pub NoOwnClashIsCertified : Type 0
NoOwnClashIsCertified =
    (limits : LimitsData) (old new : NetworkData) (p : List ℤ) (m : ℕ) → (first_own_clash limits old new p m ≡ None) ↔ IsCertifiedFor limits old new p m

-- ---- what follows where each has seen its own part alone

-- those near a member have seen its potential as it has itself
abbrev pub AreSeenAlike : LimitsData → (ℕ → List ℤ) → Type 0
AreSeenAlike limits seen =
    (m j : ℕ) → m < limits.members → j < limits.members → IsNear limits m j → potential (seen m) j ≡ potential (seen j) j

-- where each member but one finds its own part certified by the potentials that it has seen, and they are seen alike, the network
-- has the least gross of all admissible ones
abbrev pub LeastWhereAllButOneSay : Type 0
LeastWhereAllButOneSay =
    (limits : LimitsData) (old new : NetworkData) (seen : ℕ → List ℤ) → AreOfOneMarket limits old new → AreSeenAlike limits seen →
    (k : ℕ) → ((m : ℕ) → m < old.members → m ≢ k → IsPartCertified limits old new (seen m) m) → IsLeast limits old new
