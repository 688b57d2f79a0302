-- Each fault of rows excludes the others, and that the rows are a network.
use Rattle.std.proofs.Common.{◌≡◌, ℕ, ◌+◌, ◌-◌, ◌<◌, ◌≤◌, ◌^◌, List, length, get_or, take, refl, sym, ap, subst, arith, ⊎_elim}
use Rattle.std.proofs.lemmas.Bool.{cases_lt}
use Rattle.std.proofs.lemmas.List.{get_or-take, length-take, take-take, take_all}
use Rattle.std.proofs.lemmas.List.Sums.{sum_by-take-le}
use Rattle.network_laws.specs.declared.rows.Row.{Row}
use Rattle.network_laws.specs.declared.network.NetworkFault.{NetworkFault}
use Rattle.network_laws.specs.declared.network.NetworkFault.TheVariants.{Members, Member, Same, Zero, Order, Gross}
use Rattle.network_laws.specs.Networks.{place, total, IsGoodRow, AreRows}
use Rattle.network_laws.specs.Faults.{IsFault, IsFirstBad}

d : Row
d = record { seller = 0; buyer = 0; amount = 0 }

abbrev fault_place : NetworkFault → ℕ
fault_place Members = 0
fault_place (Member at) = at
fault_place (Same at) = at
fault_place (Zero at) = at
fault_place (Order at) = at
fault_place (Gross at) = at

module _ (n : ℕ) (rows : List Row) where
  -- a row among the first b ones
  good_at : (a b : ℕ) → a < b → a < length rows → AreRows n (take b rows) → IsGoodRow n (get_or rows a d)
  good_at a b l in_a h = subst (IsGoodRow n) (get_or-take b rows a d l) (h.good a d (omega (arith, length-take b rows)))

  rising_at : (a b : ℕ) → a < b → a < length rows → AreRows n (take b rows) → 0 < a → place (get_or rows (a - 1) d) < place (get_or rows a d)
  rising_at a b l in_a h some =
      omega (arith, h.rising (a - 1) a d (omega arith) (omega (arith, length-take b rows)), ap place (get_or-take b rows a d l), ap place (get_or-take b rows (a - 1) d (omega arith)))

  total_at : (a b : ℕ) → a < b → AreRows n (take b rows) → total (take (a + 1) rows) ≤ 10 ^ 18
  total_at a b l h =
      omega (arith, h.within, sum_by-take-le (λ (row : Row). row.amount) (take b rows) (a + 1), ap total (take-take (a + 1) b rows (omega arith)))

  -- a fault stands behind all rows that are good
  refuted : (f : NetworkFault) (b : ℕ) → IsFault n rows f → n ≤ 256 → fault_place f < b → AreRows n (take b rows) → ⊥
  refuted Members b h few l good = omega arith
  refuted (Member a) b h few l good = let row = good_at a b l h.0.here good in h.1 d (row.seller, row.buyer)
  refuted (Same a) b h few l good = (good_at a b l h.0.here good).different (h.1 d).1
  refuted (Zero a) b h few l good = omega (arith, (good_at a b l h.0.here good).positive, (h.1 d).2)
  refuted (Order a) b h few l good = omega (arith, rising_at a b l h.0.here good h.2, h.3 d)
  refuted (Gross a) b h few l good = omega (arith, total_at a b l good, h.3)

  pub fault-no_network : (f : NetworkFault) → IsFault n rows f → n ≤ 256 → AreRows n rows → ⊥
  fault-no_network f h few good = refuted f (length rows + fault_place f + 1) h few (omega arith) (subst (AreRows n) (sym (take_all (length rows + fault_place f + 1) rows (omega arith))) good)

  same_place : (f g : NetworkFault) → IsFault n rows f → IsFault n rows g → IsFirstBad n rows (fault_place f) → IsFirstBad n rows (fault_place g) → fault_place f ≡ fault_place g
  same_place f g h h' first first' =
      ⊎_elim (λ (l : fault_place f < fault_place g). absurd (refuted f (fault_place g) h first.few l first'.before))
      (λ (le : fault_place g ≤ fault_place f). ⊎_elim (λ (l : fault_place g < fault_place f). absurd (refuted g (fault_place f) h' first.few l first.before)) (λ (le' : fault_place f ≤ fault_place g). omega arith) (cases_lt (fault_place g) (fault_place f)))
      (cases_lt (fault_place f) (fault_place g))

  member-same : (a b : ℕ) → IsFault n rows (Member a) → IsFault n rows (Same b) → ⊥
  member-same a b hx h =
      let hy : IsFault n rows (Same a) = subst (λ k. IsFault n rows (Same k)) (sym (same_place (Member a) (Same b) hx h hx.0 h.0)) h in
      hx.1 d (hy.1 d).0

  member-zero : (a b : ℕ) → IsFault n rows (Member a) → IsFault n rows (Zero b) → ⊥
  member-zero a b hx h =
      let hy : IsFault n rows (Zero a) = subst (λ k. IsFault n rows (Zero k)) (sym (same_place (Member a) (Zero b) hx h hx.0 h.0)) h in
      hx.1 d (hy.1 d).0

  member-order : (a b : ℕ) → IsFault n rows (Member a) → IsFault n rows (Order b) → ⊥
  member-order a b hx h =
      let hy : IsFault n rows (Order a) = subst (λ k. IsFault n rows (Order k)) (sym (same_place (Member a) (Order b) hx h hx.0 h.0)) h in
      hx.1 d ((hy.1 d).seller, (hy.1 d).buyer)

  member-gross : (a b : ℕ) → IsFault n rows (Member a) → IsFault n rows (Gross b) → ⊥
  member-gross a b hx h =
      let hy : IsFault n rows (Gross a) = subst (λ k. IsFault n rows (Gross k)) (sym (same_place (Member a) (Gross b) hx h hx.0 h.0)) h in
      hx.1 d ((hy.1 d).seller, (hy.1 d).buyer)

  same-zero : (a b : ℕ) → IsFault n rows (Same a) → IsFault n rows (Zero b) → ⊥
  same-zero a b hx h =
      let hy : IsFault n rows (Zero a) = subst (λ k. IsFault n rows (Zero k)) (sym (same_place (Same a) (Zero b) hx h hx.0 h.0)) h in
      (hy.1 d).1 (hx.1 d).1

  same-order : (a b : ℕ) → IsFault n rows (Same a) → IsFault n rows (Order b) → ⊥
  same-order a b hx h =
      let hy : IsFault n rows (Order a) = subst (λ k. IsFault n rows (Order k)) (sym (same_place (Same a) (Order b) hx h hx.0 h.0)) h in
      (hy.1 d).different (hx.1 d).1

  same-gross : (a b : ℕ) → IsFault n rows (Same a) → IsFault n rows (Gross b) → ⊥
  same-gross a b hx h =
      let hy : IsFault n rows (Gross a) = subst (λ k. IsFault n rows (Gross k)) (sym (same_place (Same a) (Gross b) hx h hx.0 h.0)) h in
      (hy.1 d).different (hx.1 d).1

  zero-order : (a b : ℕ) → IsFault n rows (Zero a) → IsFault n rows (Order b) → ⊥
  zero-order a b hx h =
      let hy : IsFault n rows (Order a) = subst (λ k. IsFault n rows (Order k)) (sym (same_place (Zero a) (Order b) hx h hx.0 h.0)) h in
      omega (arith, (hx.1 d).2, (hy.1 d).positive)

  zero-gross : (a b : ℕ) → IsFault n rows (Zero a) → IsFault n rows (Gross b) → ⊥
  zero-gross a b hx h =
      let hy : IsFault n rows (Gross a) = subst (λ k. IsFault n rows (Gross k)) (sym (same_place (Zero a) (Gross b) hx h hx.0 h.0)) h in
      omega (arith, (hx.1 d).2, (hy.1 d).positive)

  order-gross : (a b : ℕ) → IsFault n rows (Order a) → IsFault n rows (Gross b) → ⊥
  order-gross a b hx h =
      let hy : IsFault n rows (Gross a) = subst (λ k. IsFault n rows (Gross k)) (sym (same_place (Order a) (Gross b) hx h hx.0 h.0)) h in
      omega (arith, hx.3 d, hy.2 d hx.2)

  -- there is at most one fault
  pub fault-one : (f g : NetworkFault) → IsFault n rows f → IsFault n rows g → f ≡ g
  fault-one Members Members h h' = refl
  fault-one Members (Member b) h h' = absurd (omega (arith, h'.0.few))
  fault-one Members (Same b) h h' = absurd (omega (arith, h'.0.few))
  fault-one Members (Zero b) h h' = absurd (omega (arith, h'.0.few))
  fault-one Members (Order b) h h' = absurd (omega (arith, h'.0.few))
  fault-one Members (Gross b) h h' = absurd (omega (arith, h'.0.few))
  fault-one (Member a) Members h h' = absurd (omega (arith, h.0.few))
  fault-one (Member a) (Member b) h h' = ap Member (same_place (Member a) (Member b) h h' h.0 h'.0)
  fault-one (Member a) (Same b) h h' = absurd (member-same a b h h')
  fault-one (Member a) (Zero b) h h' = absurd (member-zero a b h h')
  fault-one (Member a) (Order b) h h' = absurd (member-order a b h h')
  fault-one (Member a) (Gross b) h h' = absurd (member-gross a b h h')
  fault-one (Same a) Members h h' = absurd (omega (arith, h.0.few))
  fault-one (Same a) (Member b) h h' = absurd (member-same b a h' h)
  fault-one (Same a) (Same b) h h' = ap Same (same_place (Same a) (Same b) h h' h.0 h'.0)
  fault-one (Same a) (Zero b) h h' = absurd (same-zero a b h h')
  fault-one (Same a) (Order b) h h' = absurd (same-order a b h h')
  fault-one (Same a) (Gross b) h h' = absurd (same-gross a b h h')
  fault-one (Zero a) Members h h' = absurd (omega (arith, h.0.few))
  fault-one (Zero a) (Member b) h h' = absurd (member-zero b a h' h)
  fault-one (Zero a) (Same b) h h' = absurd (same-zero b a h' h)
  fault-one (Zero a) (Zero b) h h' = ap Zero (same_place (Zero a) (Zero b) h h' h.0 h'.0)
  fault-one (Zero a) (Order b) h h' = absurd (zero-order a b h h')
  fault-one (Zero a) (Gross b) h h' = absurd (zero-gross a b h h')
  fault-one (Order a) Members h h' = absurd (omega (arith, h.0.few))
  fault-one (Order a) (Member b) h h' = absurd (member-order b a h' h)
  fault-one (Order a) (Same b) h h' = absurd (same-order b a h' h)
  fault-one (Order a) (Zero b) h h' = absurd (zero-order b a h' h)
  fault-one (Order a) (Order b) h h' = ap Order (same_place (Order a) (Order b) h h' h.0 h'.0)
  fault-one (Order a) (Gross b) h h' = absurd (order-gross a b h h')
  fault-one (Gross a) Members h h' = absurd (omega (arith, h.0.few))
  fault-one (Gross a) (Member b) h h' = absurd (member-gross b a h' h)
  fault-one (Gross a) (Same b) h h' = absurd (same-gross b a h' h)
  fault-one (Gross a) (Zero b) h h' = absurd (zero-gross b a h' h)
  fault-one (Gross a) (Order b) h h' = absurd (order-gross b a h' h)
  fault-one (Gross a) (Gross b) h h' = ap Gross (same_place (Gross a) (Gross b) h h' h.0 h'.0)
