-- The certificate's laws.
use Rattle.std.proofs.Common.{◌≡◌, ℕ, zero, suc, ◌*◌, ◌<◌, ◌≤◌, List, Option, Some, None, ℤ, pos, negsuc, ◌*ℤ◌, ◌≤ℤ◌, refl, sym, ap, subst, arith}
use Rattle.std.proofs.lemmas.Int.{ints}
use Rattle.network_laws.specs.Networks.{NetworkData, at, net, AreInRange}
use Rattle.network_laws.specs.Limits.{LimitsData, lower, upper, IsWithin, IsBelow, IsAdmissible, IsCertified, potential, reduced, int_sum_below, int_sum_pairs, least_cost, pair_cost, HasBound}
use Rattle.network_laws.specs.Laws.{CertifiedIsLeast, BoundIsGross, BoundIsBelow, CertificateIsShared}
use Rattle.network_laws.proofs.Ring.{mul_mono, mul_anti}
use Rattle.network_laws.proofs.Sums.{int_sum_below-same, int_sum_pairs-same, int_sum_pairs-le, int_sum_pairs-tight}
use Rattle.network_laws.proofs.RowSums.{gross_is}

-- the least cost is at most the cost of each amount within the bounds
pub least_cost-le : (r : ℤ) (low z : ℕ) (high : Option ℕ) → low ≤ z → IsWithin z high → (high ≡ None → pos 0 ≤ℤ r) → least_cost r low high ≤ℤ (r *ℤ pos z)
least_cost-le (pos r) low z high a b c = mul_mono (pos r) low z (omega (arith, ints)) a
least_cost-le (negsuc r) low z (Some high) a b c = mul_anti (negsuc r) z high (omega (arith, ints)) b
least_cost-le (negsuc r) low z None a b c = absurd (omega (arith, ints, c refl))

-- and it is the cost of the amount of a certified pair
pub least_cost-is : (r : ℤ) (low z : ℕ) (high : Option ℕ) → low ≤ z → IsWithin z high → (IsBelow z high → pos 0 ≤ℤ r) → (low < z → r ≤ℤ pos 0) → least_cost r low high ≡ r *ℤ pos z
least_cost-is (pos zero) low z high a b c d = omega (arith, ints)
least_cost-is (pos (suc r)) low z high a b c d =
    let not_above : low < z → ⊥ = λ h. omega (arith, ints, d h) in
    let e : low ≡ z = omega arith in
    ap (λ x. pos (suc r * x)) e
least_cost-is (negsuc r) low z (Some high) a b c d =
    let not_below : z < high → ⊥ = λ h. omega (arith, ints, c h) in
    let e : high ≡ z = omega arith in
    ap (λ x. negsuc r *ℤ pos x) e
least_cost-is (negsuc r) low z None a b c d = absurd (omega (arith, ints, c tt))

-- the bounds of an admissible network, with the old members
lower_ok : (limits : LimitsData) (old z : NetworkData) → IsAdmissible limits old z → (i j : ℕ) → i < old.members → j < old.members → lower limits i j ≤ at z i j
lower_ok limits old z a i j in_i in_j = a.within.above i j (omega (arith, a.new_members)) (omega (arith, a.new_members))

upper_ok : (limits : LimitsData) (old z : NetworkData) → IsAdmissible limits old z → (i j : ℕ) → i < old.members → j < old.members → IsWithin (at z i j) (upper limits i j)
upper_ok limits old z a i j in_i in_j = a.within.below i j (omega (arith, a.new_members)) (omega (arith, a.new_members))

same_nets : (limits : LimitsData) (old z : NetworkData) (p : List ℤ) → IsAdmissible limits old z → int_sum_below old.members (λ i. potential p i *ℤ net old i) ≡ int_sum_below old.members (λ i. potential p i *ℤ net z i)
same_nets limits old z p a =
    int_sum_below-same old.members (λ i. potential p i *ℤ net old i) (λ i. potential p i *ℤ net z i) (λ i below. ap (λ x. potential p i *ℤ x) (sym (a.nets i below)))

pub bound_is_below : BoundIsBelow
bound_is_below limits old z p in_range has a =
    let n = old.members in
    let in_old : AreInRange n z.rows = subst (λ m. AreInRange m z.rows) a.new_members in_range in
    omega (
      arith,
      ints,
      gross_is z n p in_old,
      same_nets limits old z p a,
      int_sum_pairs-le n (λ i j. least_cost (reduced p i j) (lower limits i j) (upper limits i j)) (λ i j. reduced p i j *ℤ pos (at z i j))
          (λ i j in_i in_j. least_cost-le (reduced p i j) (lower limits i j) (at z i j) (upper limits i j) (lower_ok limits old z a i j in_i in_j) (upper_ok limits old z a i j in_i in_j)
          (has i j (omega (arith, a.limit_members)) (omega (arith, a.limit_members)))),
    )

pub bound_is_gross : BoundIsGross
bound_is_gross limits old y p in_range c =
    let n = old.members in
    let a = c.admissible in
    let in_old : AreInRange n y.rows = subst (λ m. AreInRange m y.rows) a.new_members in_range in
    omega (
      arith,
      ints,
      gross_is y n p in_old,
      same_nets limits old y p a,
      int_sum_pairs-same n (λ i j. least_cost (reduced p i j) (lower limits i j) (upper limits i j)) (λ i j. reduced p i j *ℤ pos (at y i j))
          (λ i j in_i in_j. least_cost-is (reduced p i j) (lower limits i j) (at y i j) (upper limits i j) (lower_ok limits old y a i j in_i in_j) (upper_ok limits old y a i j in_i in_j) (c.growing i j in_i in_j) (c.falling i j in_i in_j)),
    )

pub none_is_below : (z : ℕ) (high : Option ℕ) → high ≡ None → IsBelow z high
none_is_below z high e = subst (IsBelow z) (sym e) tt

pub certified_has_bound : (limits : LimitsData) (old new : NetworkData) (p : List ℤ) → IsCertified limits old new p → HasBound limits p
certified_has_bound limits old new p c i j in_i in_j e =
    let m = c.admissible.limit_members in
    c.growing i j (omega (arith, m)) (omega (arith, m)) (none_is_below (at new i j) (upper limits i j) e)

pub certified_is_least : CertifiedIsLeast
certified_is_least limits old new p in_range c = record {
  admissible = c.admissible;
  least = λ z in_z a. omega (arith, ints, bound_is_gross limits old new p in_range c, bound_is_below limits old z p in_z (certified_has_bound limits old new p c) a);
}

mul_lt : (r a b : ℕ) → a < b → suc r * a < suc r * b
mul_lt r a b h = grind arith

-- an amount that costs the least is priced
priced_at_least : (r : ℤ) (low z : ℕ) (high : Option ℕ) → low ≤ z → IsWithin z high → (high ≡ None → pos 0 ≤ℤ r) → least_cost r low high ≡ r *ℤ pos z → (IsBelow z high → pos 0 ≤ℤ r) × (low < z → r ≤ℤ pos 0)
priced_at_least (pos zero) low z high a b c e = ((λ h. omega (arith, ints)), (λ h. omega (arith, ints)))
priced_at_least (pos (suc r)) low z high a b c e =
    ((λ h. omega (arith, ints)), (λ h. absurd (omega (arith, ints, mul_lt r low z h, same_out_pos e))))
  where
    same_out_pos : {m n : ℕ} → pos m ≡ pos n → m ≡ n
    same_out_pos q = omega (arith, ints, q)
priced_at_least (negsuc r) low z (Some high) a b c e =
    ((λ h. absurd (omega (arith, ints, mul_lt r z high h, e))), (λ h. omega (arith, ints)))
priced_at_least (negsuc r) low z None a b c e = absurd (omega (arith, ints, c refl))

pub certificate_is_shared : CertificateIsShared
certificate_is_shared limits old y z p in_y in_z c a same =
    let n = old.members in
    let has = certified_has_bound limits old y p c in
    let in_old : AreInRange n z.rows = subst (λ m. AreInRange m z.rows) a.new_members in_z in
    let is_least : (i j : ℕ) → i < n → j < n → pair_cost limits p i j ≤ℤ (reduced p i j *ℤ pos (at z i j)) =
    λ i j in_i in_j. least_cost-le (reduced p i j) (lower limits i j) (at z i j) (upper limits i j) (lower_ok limits old z a i j in_i in_j) (upper_ok limits old z a i j in_i in_j) (has i j (omega (arith, a.limit_members)) (omega (arith, a.limit_members))) in
    let sums : int_sum_pairs n (pair_cost limits p) ≡ int_sum_pairs n (λ i j. reduced p i j *ℤ pos (at z i j)) =
    omega (arith, ints, bound_is_gross limits old y p in_y c, gross_is z n p in_old, same_nets limits old z p a, same) in
    let priced = λ (i : ℕ) (j : ℕ) (in_i : i < n) (in_j : j < n). priced_at_least (reduced p i j) (lower limits i j) (at z i j) (upper limits i j) (lower_ok limits old z a i j in_i in_j) (upper_ok limits old z a i j in_i in_j) (has i j (omega (arith, a.limit_members)) (omega (arith, a.limit_members)))
    (int_sum_pairs-tight n (pair_cost limits p) (λ i j. reduced p i j *ℤ pos (at z i j)) is_least sums i j in_i in_j) in
    record { admissible = a; growing = λ i j in_i in_j. (priced i j in_i in_j).0; falling = λ i j in_i in_j. (priced i j in_i in_j).1 }
