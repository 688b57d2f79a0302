-- What holds where some members say nothing of a certificate.
use Rattle.std.proofs.Common.{◌≡◌, ◌≢◌, ℕ, zero, suc, ◌<◌, ◌≤◌, true, false, List, [], ◌∷◌, ℤ, pos, ◌*ℤ◌, ◌≤ℤ◌, refl, sym, ap, ◌∙◌, subst, arith, ⊎_elim}
use Rattle.std.proofs.lemmas.Bool.{cases_Bool}
use Rattle.std.proofs.lemmas.Int.{ints}
use Rattle.network_laws.specs.Networks.{NetworkData, at, net, AreInRange}
use Rattle.network_laws.specs.Limits.{LimitsData, lower, upper, IsWithin, potential, reduced}
use Rattle.network_laws.proofs.Sums.{int_sum_below-same, int_sum_pairs-le}
use Rattle.network_laws.proofs.RowSums.{gross_is}
use Rattle.network_laws.proofs.Duality.{least_cost-le, least_cost-is, none_is_below, certified_is_least}
use Rattle.network_laws.proofs.FreeLimits.{all_sold}
use Rattle.dual_certificate.specs.Own.{IsPairCertified, IsCertifiedFor}
use Rattle.dual_certificate.specs.OwnLaws.{LeastBesideTheSilent, LeastWhereAllButOneSay, GrossIsWhatAllSell}
use Rattle.dual_certificate.proofs.OwnPairs.{in_range, certified_where_all_but_one_are}
use Rattle.dual_certificate.proofs.OwnRows.{own_rows_are_enough}
use Rattle.dual_certificate.proofs.NearPrices.{near_potentials_are_enough}

-- a certified amount costs the least
costs_least : (limits : LimitsData) (new z : NetworkData) (p : List ℤ) (i j : ℕ) → IsPairCertified limits new p i j → lower limits i j ≤ at z i j → IsWithin (at z i j) (upper limits i j) → (reduced p i j *ℤ pos (at new i j)) ≤ℤ (reduced p i j *ℤ pos (at z i j))
costs_least limits new z p i j c above below =
    let r = reduced p i j in
    let low = lower limits i j in
    let high = upper limits i j in
    let is = least_cost-is r low (at new i j) high c.above c.below c.growing c.falling in
    let le = least_cost-le r low (at z i j) high above below (λ e. c.growing (none_is_below (at new i j) high e)) in
    omega (arith, ints, is, le)

pub least_beside_the_silent : LeastBesideTheSilent
least_beside_the_silent limits old new p is_silent in_new new_members h z other =
    omega (
      arith,
      ints,
      gross_is new n p (subst (λ k. AreInRange k new.rows) new_members in_new),
      gross_is z n p (subst (λ k. AreInRange k z.rows) members other.range),
      int_sum_below-same n (λ i. potential p i *ℤ net z i) (λ i. potential p i *ℤ net new i) (λ i in_i. ap (λ x. potential p i *ℤ x) (other.nets i (omega (arith, new_members, in_i)))),
      int_sum_pairs-le n (λ i j. reduced p i j *ℤ pos (at new i j)) (λ i j. reduced p i j *ℤ pos (at z i j)) each,
    )
  where
    n : ℕ
    n = old.members

    members : z.members ≡ n
    members = other.members ∙ new_members

    cost : (i j : ℕ) → i < n → j < n → IsPairCertified limits new p i j → (reduced p i j *ℤ pos (at new i j)) ≤ℤ (reduced p i j *ℤ pos (at z i j))
    cost i j in_i in_j c =
        costs_least limits new z p i j c (other.within.above i j (omega (arith, members, in_i)) (omega (arith, members, in_j))) (other.within.below i j (omega (arith, members, in_i)) (omega (arith, members, in_j)))

    each : (i j : ℕ) → i < n → j < n → (reduced p i j *ℤ pos (at new i j)) ≤ℤ (reduced p i j *ℤ pos (at z i j))
    each i j in_i in_j =
        ⊎_elim (λ (s : is_silent i ≡ true).
        ⊎_elim (λ (s' : is_silent j ≡ true). omega (arith, ints, ap (λ a. reduced p i j *ℤ pos a) (other.silent i j (omega (arith, new_members, in_i)) (omega (arith, new_members, in_j)) s s')))
        (λ (e : is_silent j ≡ false). cost i j in_i in_j ((h j in_j e).buying i in_i))
        (cases_Bool (is_silent j)))
        (λ (e : is_silent i ≡ false). cost i j in_i in_j ((h i in_i e).selling j in_j))
        (cases_Bool (is_silent i))

pub gross_is_what_all_sell : GrossIsWhatAllSell
gross_is_what_all_sell y in_y = all_sold y.members y.rows in_y

-- a potential for each member
abbrev prices_of : ℕ → (ℕ → ℤ) → List ℤ
prices_of zero f = []
prices_of (suc n) f = f zero ∷ prices_of n (λ i. f (suc i))

price_of : (n i : ℕ) (f : ℕ → ℤ) → i < n → potential (prices_of n f) i ≡ f i
price_of zero i f l = absurd (omega (arith, l))
price_of (suc n) zero f l = refl
price_of (suc n) (suc i) f l = price_of n i (λ k. f (suc k)) (omega (arith, l))

pub least_where_all_but_one_say : LeastWhereAllButOneSay
least_where_all_but_one_say limits old new seen market alike k h =
    certified_is_least limits old new p (in_range new market.good_new) (certified_where_all_but_one_are limits old new p market k each)
  where
    p : List ℤ
    p = prices_of old.members (λ i. potential (seen i) i)

    inside : (m : ℕ) → m < old.members → m < limits.members
    inside m in_m = omega (arith, market.limit_members, in_m)

    each : (m : ℕ) → m < old.members → m ≢ k → IsCertifiedFor limits old new p m
    each m in_m ne =
        near_potentials_are_enough limits old new (seen m) p m in_m
        (λ j in_j near. price_of old.members j (λ i. potential (seen i) i) in_j ∙ sym (alike m j (inside m in_m) (inside j in_j) near))
        ((own_rows_are_enough limits old new (seen m) m).0 (h m in_m ne))
