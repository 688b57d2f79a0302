-- All members together, and all but one, say what a certificate says.
use Rattle.std.proofs.Common.{◌≡◌, ◌≢◌, ℕ, zero, suc, ◌+◌, ◌*◌, ◌<◌, ◌≤◌, get_or, Some, List, ℤ, pos, ◌*ℤ◌, sym, ap, ◌∙◌, subst, arith, ⊎_elim}
use Rattle.std.proofs.lemmas.Bool.{cases_eq}
use Rattle.std.proofs.lemmas.Int.{ints}
use Rattle.network_laws.specs.Networks.{NetworkData, at, net, AreInRange, IsNetwork}
use Rattle.network_laws.specs.Limits.{LimitsData, lower, upper, IsBelow, IsCertified, AreLimits, int_sum_below}
use Rattle.network_laws.proofs.Ring.{one_mul}
use Rattle.network_laws.proofs.Sums.{int_sum_below-same}
use Rattle.network_laws.proofs.RowSums.{priced_by_nets}
use Rattle.network_laws.proofs.RowOrder.{amount_none}
use Rattle.network_laws.proofs.LimitOrder.{is_for-other, lookup_none}
use Rattle.dual_certificate.specs.Own.{IsPairCertified, IsCertifiedFor}
use Rattle.dual_certificate.specs.OwnLaws.{CertifiedWhereAllMembersAre, CertifiedWhereAllButOneAre}

-- a certificate is what it says of all pairs and of all net positions
from_pairs : (limits : LimitsData) (old new : NetworkData) (p : List ℤ) → limits.members ≡ old.members → new.members ≡ old.members → ((i j : ℕ) → i < old.members → j < old.members → IsPairCertified limits new p i j) → ((i : ℕ) → i < old.members → net new i ≡ net old i) → IsCertified limits old new p
from_pairs limits old new p limit_members new_members pairs nets = record {
  admissible = record {
    limit_members = limit_members;
    new_members = new_members;
    within = record {
      above = λ i j in_i in_j. (pairs i j (omega (arith, new_members)) (omega (arith, new_members))).above;
      below = λ i j in_i in_j. (pairs i j (omega (arith, new_members)) (omega (arith, new_members))).below;
    };
    nets = nets;
  };
  growing = λ i j in_i in_j. (pairs i j in_i in_j).growing;
  falling = λ i j in_i in_j. (pairs i j in_i in_j).falling;
}

to_pair : (limits : LimitsData) (old new : NetworkData) (p : List ℤ) → IsCertified limits old new p → (i j : ℕ) → i < old.members → j < old.members → IsPairCertified limits new p i j
to_pair limits old new p c i j in_i in_j =
    let a = c.admissible in
    record {
      above = a.within.above i j (omega (arith, a.new_members)) (omega (arith, a.new_members));
      below = a.within.below i j (omega (arith, a.new_members)) (omega (arith, a.new_members));
      growing = c.growing i j in_i in_j;
      falling = c.falling i j in_i in_j;
    }

pub certified_where_all_members_are : CertifiedWhereAllMembersAre
certified_where_all_members_are limits old new p limit_members new_members = (there, back)
  where
    there : IsCertified limits old new p → (m : ℕ) → m < old.members → IsCertifiedFor limits old new p m
    there c m in_m = record {
      selling = λ j in_j. to_pair limits old new p c m j in_m in_j;
      buying = λ i in_i. to_pair limits old new p c i m in_i in_m;
      keeping = c.admissible.nets m in_m;
    }

    back : ((m : ℕ) → m < old.members → IsCertifiedFor limits old new p m) → IsCertified limits old new p
    back h = from_pairs limits old new p limit_members new_members (λ i j in_i in_j. (h i in_i).selling j in_j) (λ i in_i. (h i in_i).keeping)

-- no member owes itself
own_place : (n i s b : ℕ) → n ≤ 256 → b < n → i < n → s * 65536 + b ≡ i * 65536 + i → s ≡ b
own_place n i s b few in_b in_i e = omega (arith, few, in_b, in_i, e)

self_amount : (y : NetworkData) (i : ℕ) → IsNetwork y → i < y.members → at y i i ≡ 0
self_amount y i h in_i =
    amount_none y.rows i i (λ k d l e. let good = h.rows.good k d l in good.different (own_place y.members i (get_or y.rows k d).seller (get_or y.rows k d).buyer h.few good.buyer in_i e))

self_bounds : (limits : LimitsData) (i : ℕ) → AreLimits limits → i < limits.members → (lower limits i i ≡ 0) × (upper limits i i ≡ Some 0)
self_bounds limits i h in_i =
    lookup_none limits.rows i i (λ k d l. is_for-other i i (get_or limits.rows k d) (λ e. let good = h.rows.good k d l in good.different (own_place limits.members i (get_or limits.rows k d).seller (get_or limits.rows k d).buyer h.few good.buyer in_i e)))

pub nothing_moves : (limits : LimitsData) (new : NetworkData) (p : List ℤ) (i j : ℕ) → at new i j ≡ 0 → lower limits i j ≡ 0 → upper limits i j ≡ Some 0 → IsPairCertified limits new p i j
nothing_moves limits new p i j amount low high = record {
  above = omega (arith, amount, low);
  below = rw (amount, high) (omega arith);
  growing = λ h. absurd (at_most_0 (subst (λ o. IsBelow (at new i j) o) high h));
  falling = λ h. absurd (omega (arith, amount, h));
}
  where
    at_most_0 : at new i j < 0 → ⊥
    at_most_0 h = omega (arith, h)

-- the net positions add up to 0
nets_cancel : (y : NetworkData) (n : ℕ) → AreInRange n y.rows → int_sum_below n (net y) ≡ pos 0
nets_cancel y n h =
    omega (arith, ints, int_sum_below-same n (net y) (λ i. pos 1 *ℤ net y i) (λ i _. sym (one_mul (net y i))), priced_by_nets y n (λ i. pos 1) h)

pub in_range : (y : NetworkData) → IsNetwork y → AreInRange y.members y.rows
in_range y h k d l = let good = h.rows.good k d l in (good.seller, good.buyer)

-- so where all terms but one are equal, and the sums, that one is too
last_term : (n k : ℕ) (f g : ℕ → ℤ) → k < n → int_sum_below n f ≡ int_sum_below n g → ((i : ℕ) → i < n → i ≢ k → f i ≡ g i) → f k ≡ g k
last_term zero k f g l e h = absurd (omega arith)
last_term (suc n) k f g l e h =
    ⊎_elim (λ (q : k ≡ n).
    let front = int_sum_below-same n f g (λ i below. h i (omega arith) (omega (arith, q, below))) in
    let last : f n ≡ g n = omega (arith, ints, e, front) in
    ap f q ∙ last ∙ sym (ap g q))
    (λ (ne : k ≢ n).
    let last = h n (omega arith) (λ q. ne (sym q)) in
    let front : int_sum_below n f ≡ int_sum_below n g = omega (arith, ints, e, last) in
    last_term n k f g (omega (arith, l, ne)) front (λ i below. h i (omega (arith, below))))
    (cases_eq k n)

pub certified_where_all_but_one_are : CertifiedWhereAllButOneAre
certified_where_all_but_one_are limits old new p market k h = from_pairs limits old new p market.limit_members market.new_members pairs nets
  where
    pairs : (i j : ℕ) → i < old.members → j < old.members → IsPairCertified limits new p i j
    pairs i j in_i in_j =
        ⊎_elim (λ (e : i ≡ k).
        ⊎_elim (λ (e' : j ≡ k).
        let same : i ≡ j = e ∙ sym e' in
        let bounds = self_bounds limits i market.good_limits (omega (arith, market.limit_members, in_i)) in
        subst (λ b. IsPairCertified limits new p i b) same (nothing_moves limits new p i i (self_amount new i market.good_new (omega (arith, market.new_members, in_i))) bounds.0 bounds.1))
        (λ (ne : j ≢ k). (h j in_j ne).buying i in_i)
        (cases_eq j k))
        (λ (ne : i ≢ k). (h i in_i ne).selling j in_j)
        (cases_eq i k)

    nets : (i : ℕ) → i < old.members → net new i ≡ net old i
    nets i in_i =
        ⊎_elim (λ (e : i ≡ k).
        let news : int_sum_below old.members (net new) ≡ pos 0 = nets_cancel new old.members (subst (λ n. AreInRange n new.rows) market.new_members (in_range new market.good_new)) in
        let olds = nets_cancel old old.members (in_range old market.good_old) in
        last_term old.members i (net new) (net old) in_i (news ∙ sym olds) (λ m in_m ne. (h m in_m (λ q. ne (q ∙ sym e))).keeping))
        (λ (ne : i ≢ k). (h i in_i ne).keeping)
        (cases_eq i k)
