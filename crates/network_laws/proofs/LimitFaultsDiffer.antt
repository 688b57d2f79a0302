-- Each fault of limit rows excludes the others, and that the rows are limits.
use Rattle.std.proofs.Common.{◌≡◌, ℕ, ◌+◌, ◌-◌, ◌<◌, ◌≤◌, List, None, length, get_or, take, refl, sym, ap, subst, arith, ⊎_elim}
use Rattle.std.proofs.lemmas.Bool.{cases_lt}
use Rattle.std.proofs.lemmas.List.{get_or-take, length-take, take_all}
use Rattle.network_laws.specs.declared.rows.LimitRow.{LimitRow}
use Rattle.network_laws.specs.declared.limits.LimitFault.{LimitFault}
use Rattle.network_laws.specs.declared.limits.LimitFault.TheVariants.{Members, Member, Same, Order, Crossed}
use Rattle.network_laws.specs.Limits.{limit_place, IsGoodLimit, AreLimitRows}
use Rattle.network_laws.specs.LimitFaults.{IsLimitFault, IsFirstBadLimit}

d : LimitRow
d = record { seller = 0; buyer = 0; lower = 0; upper = None }

abbrev fault_place : LimitFault → ℕ
fault_place Members = 0
fault_place (Member at) = at
fault_place (Same at) = at
fault_place (Order at) = at
fault_place (Crossed at) = at

module _ (n : ℕ) (rows : List LimitRow) where
  -- a row among the first b ones
  good_at : (a b : ℕ) → a < b → a < length rows → AreLimitRows n (take b rows) → IsGoodLimit n (get_or rows a d)
  good_at a b l in_a h = subst (IsGoodLimit n) (get_or-take b rows a d l) (h.good a d (omega (arith, length-take b rows)))

  rising_at : (a b : ℕ) → a < b → a < length rows → AreLimitRows n (take b rows) → 0 < a → limit_place (get_or rows (a - 1) d) < limit_place (get_or rows a d)
  rising_at a b l in_a h some =
      omega (arith, h.rising (a - 1) a d (omega arith) (omega (arith, length-take b rows)), ap limit_place (get_or-take b rows a d l), ap limit_place (get_or-take b rows (a - 1) d (omega arith)))

  -- a fault stands behind all rows that are good
  refuted : (f : LimitFault) (b : ℕ) → IsLimitFault n rows f → n ≤ 256 → fault_place f < b → AreLimitRows n (take b rows) → ⊥
  refuted Members b h few l good = omega arith
  refuted (Member a) b h few l good = let row = good_at a b l h.0.here good in h.1 d (row.seller, row.buyer)
  refuted (Same a) b h few l good = (good_at a b l h.0.here good).different (h.1 d).1
  refuted (Order a) b h few l good = omega (arith, rising_at a b l h.0.here good h.2, h.3 d)
  refuted (Crossed a) b h few l good = h.3 d (good_at a b l h.0.here good).not_crossed

  pub limit_fault-no_limits : (f : LimitFault) → IsLimitFault n rows f → n ≤ 256 → AreLimitRows n rows → ⊥
  limit_fault-no_limits f h few good = refuted f (length rows + fault_place f + 1) h few (omega arith) (subst (AreLimitRows n) (sym (take_all (length rows + fault_place f + 1) rows (omega arith))) good)

  same_place : (f g : LimitFault) → IsLimitFault n rows f → IsLimitFault n rows g → IsFirstBadLimit n rows (fault_place f) → IsFirstBadLimit n rows (fault_place g) → fault_place f ≡ fault_place g
  same_place f g h h' first first' =
      ⊎_elim (λ (l : fault_place f < fault_place g). absurd (refuted f (fault_place g) h first.few l first'.before))
      (λ (le : fault_place g ≤ fault_place f). ⊎_elim (λ (l : fault_place g < fault_place f). absurd (refuted g (fault_place f) h' first.few l first.before)) (λ (le' : fault_place f ≤ fault_place g). omega arith) (cases_lt (fault_place g) (fault_place f)))
      (cases_lt (fault_place f) (fault_place g))

  member-same : (a b : ℕ) → IsLimitFault n rows (Member a) → IsLimitFault n rows (Same b) → ⊥
  member-same a b hx h =
      let hy : IsLimitFault n rows (Same a) = subst (λ k. IsLimitFault n rows (Same k)) (sym (same_place (Member a) (Same b) hx h hx.0 h.0)) h in
      hx.1 d (hy.1 d).0

  member-order : (a b : ℕ) → IsLimitFault n rows (Member a) → IsLimitFault n rows (Order b) → ⊥
  member-order a b hx h =
      let hy : IsLimitFault n rows (Order a) = subst (λ k. IsLimitFault n rows (Order k)) (sym (same_place (Member a) (Order b) hx h hx.0 h.0)) h in
      hx.1 d (hy.1 d).0

  member-crossed : (a b : ℕ) → IsLimitFault n rows (Member a) → IsLimitFault n rows (Crossed b) → ⊥
  member-crossed a b hx h =
      let hy : IsLimitFault n rows (Crossed a) = subst (λ k. IsLimitFault n rows (Crossed k)) (sym (same_place (Member a) (Crossed b) hx h hx.0 h.0)) h in
      hx.1 d (hy.1 d).0

  same-order : (a b : ℕ) → IsLimitFault n rows (Same a) → IsLimitFault n rows (Order b) → ⊥
  same-order a b hx h =
      let hy : IsLimitFault n rows (Order a) = subst (λ k. IsLimitFault n rows (Order k)) (sym (same_place (Same a) (Order b) hx h hx.0 h.0)) h in
      (hy.1 d).1 (hx.1 d).1

  same-crossed : (a b : ℕ) → IsLimitFault n rows (Same a) → IsLimitFault n rows (Crossed b) → ⊥
  same-crossed a b hx h =
      let hy : IsLimitFault n rows (Crossed a) = subst (λ k. IsLimitFault n rows (Crossed k)) (sym (same_place (Same a) (Crossed b) hx h hx.0 h.0)) h in
      (hy.1 d).1 (hx.1 d).1

  order-crossed : (a b : ℕ) → IsLimitFault n rows (Order a) → IsLimitFault n rows (Crossed b) → ⊥
  order-crossed a b hx h =
      let hy : IsLimitFault n rows (Crossed a) = subst (λ k. IsLimitFault n rows (Crossed k)) (sym (same_place (Order a) (Crossed b) hx h hx.0 h.0)) h in
      omega (arith, hx.3 d, hy.2 d hx.2)

  -- there is at most one fault
  pub limit_fault-one : (f g : LimitFault) → IsLimitFault n rows f → IsLimitFault n rows g → f ≡ g
  limit_fault-one Members Members h h' = refl
  limit_fault-one Members (Member b) h h' = absurd (omega (arith, h'.0.few))
  limit_fault-one Members (Same b) h h' = absurd (omega (arith, h'.0.few))
  limit_fault-one Members (Order b) h h' = absurd (omega (arith, h'.0.few))
  limit_fault-one Members (Crossed b) h h' = absurd (omega (arith, h'.0.few))
  limit_fault-one (Member a) Members h h' = absurd (omega (arith, h.0.few))
  limit_fault-one (Member a) (Member b) h h' = ap Member (same_place (Member a) (Member b) h h' h.0 h'.0)
  limit_fault-one (Member a) (Same b) h h' = absurd (member-same a b h h')
  limit_fault-one (Member a) (Order b) h h' = absurd (member-order a b h h')
  limit_fault-one (Member a) (Crossed b) h h' = absurd (member-crossed a b h h')
  limit_fault-one (Same a) Members h h' = absurd (omega (arith, h.0.few))
  limit_fault-one (Same a) (Member b) h h' = absurd (member-same b a h' h)
  limit_fault-one (Same a) (Same b) h h' = ap Same (same_place (Same a) (Same b) h h' h.0 h'.0)
  limit_fault-one (Same a) (Order b) h h' = absurd (same-order a b h h')
  limit_fault-one (Same a) (Crossed b) h h' = absurd (same-crossed a b h h')
  limit_fault-one (Order a) Members h h' = absurd (omega (arith, h.0.few))
  limit_fault-one (Order a) (Member b) h h' = absurd (member-order b a h' h)
  limit_fault-one (Order a) (Same b) h h' = absurd (same-order b a h' h)
  limit_fault-one (Order a) (Order b) h h' = ap Order (same_place (Order a) (Order b) h h' h.0 h'.0)
  limit_fault-one (Order a) (Crossed b) h h' = absurd (order-crossed a b h h')
  limit_fault-one (Crossed a) Members h h' = absurd (omega (arith, h.0.few))
  limit_fault-one (Crossed a) (Member b) h h' = absurd (member-crossed b a h' h)
  limit_fault-one (Crossed a) (Same b) h h' = absurd (same-crossed b a h' h)
  limit_fault-one (Crossed a) (Order b) h h' = absurd (order-crossed b a h' h)
  limit_fault-one (Crossed a) (Crossed b) h h' = ap Crossed (same_place (Crossed a) (Crossed b) h h' h.0 h'.0)
