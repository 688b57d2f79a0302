-- Parents, and the labels to which they lead.
use Rattle.std.proofs.Common.{◌≡◌, ◌≢◌, ℕ, ◌<◌, ◌≤◌, ◌+◌, max, min, List, length, get_or, set, map, Some, ◌⊎◌, inl, inr, refl, sym, subst, ap, ◌∙◌, arith, ⊎_elim}
use Rattle.std.proofs.lemmas.Bool.{cases_eq, cases_lt}
use Rattle.std.proofs.lemmas.List.{get_or-set_same, get_or-set_other, length-set, get_or-map, length-map, ext_get_or}
use Rattle.network_laws.specs.declared.rows.LimitRow.{LimitRow}
use Rattle.network_laws.specs.Limits.{LimitsData, AreLimits}
use Rattle.split_parts.specs.Labels.{AreSound, LeadTo, LeadsOn, JoinsRow, CoversTo, relabelled}
use Rattle.split_parts.proofs.Labelled.{relabelled-yes, relabelled-no, joins_same, row_done}

-- labels lead to themselves
pub lead_self : (limits : LimitsData) (labels : List ℕ) → AreSound limits labels → LeadTo labels labels
lead_self limits labels s = record { size = refl; low = s.low; same = s.own; root = λ m l e. e }

-- members that are their own parents lead to themselves
pub lead_own : (parents : List ℕ) → ((m : ℕ) → m < length parents → get_or parents m 0 ≡ m) → LeadTo parents parents
lead_own parents own = record { size = refl; low = λ m l. omega (arith, own m l); same = λ m l. ap (λ x. get_or parents x 0) (own m l); root = λ m l e. e }

-- a member's label is its parent from now on
pub lead_set : (parents labels : List ℕ) (m l : ℕ) → LeadTo parents labels → m < length parents → l ≤ m → get_or parents l 0 ≡ l → l ≡ get_or labels m 0 → LeadTo (set parents m l) labels
lead_set parents labels m l h lm le root is = record {
  size = length-set parents m l ∙ h.size;
  low = λ k lk.
      let here : k < length parents = let e = length-set parents m l in omega arith in
      ⊎_elim (λ (e : k ≡ m). omega (arith, at k e)) (λ (n : k ≢ m). omega (arith, other k n, h.low k here)) (cases_eq k m);
  same = λ k lk.
      let here : k < length parents = let e = length-set parents m l in omega arith in
      ⊎_elim (λ (e : k ≡ m). ap (λ x. get_or labels x 0) (at k e) ∙ own ∙ is ∙ ap (λ x. get_or labels x 0) (sym e)) (λ (n : k ≢ m). ap (λ x. get_or labels x 0) (other k n) ∙ h.same k here) (cases_eq k m);
  root = λ k lk e.
      let here : k < length parents = let e' = length-set parents m l in omega arith in
      ⊎_elim (λ (q : k ≡ m). ap (λ x. get_or labels x 0) q ∙ sym is ∙ sym (at k q) ∙ e) (λ (n : k ≢ m). h.root k here (sym (other k n) ∙ e)) (cases_eq k m);
}
  where
    at : (k : ℕ) → k ≡ m → get_or (set parents m l) k 0 ≡ l
    at k e = ap (λ x. get_or (set parents m l) x 0) e ∙ get_or-set_same parents m l 0 lm

    other : (k : ℕ) → k ≢ m → get_or (set parents m l) k 0 ≡ get_or parents k 0
    other k n = get_or-set_other parents m k l 0 n

    own : get_or labels l 0 ≡ l
    own = h.root l (omega arith) root

-- a label is hung below a smaller one
pub lead_hung : (parents labels : List ℕ) (from to : ℕ) → LeadTo parents labels → from < length parents → to < from → get_or labels from 0 ≡ from → get_or labels to 0 ≡ to → LeadTo (set parents from to) (map (relabelled from to) labels)
lead_hung parents labels from to h lf lt top own = record {
  size = length-set parents from to ∙ h.size ∙ sym (length-map labels (relabelled from to));
  low = λ k lk.
      let here : k < length parents = let e = length-set parents from to in omega arith in
      ⊎_elim (λ (e : k ≡ from). omega (arith, at k e)) (λ (n : k ≢ from). omega (arith, other k n, h.low k here)) (cases_eq k from);
  same = λ k lk.
      let here : k < length parents = let e = length-set parents from to in omega arith in
      ⊎_elim (λ (e : k ≡ from). ap (λ x. get_or (map (relabelled from to) labels) x 0) (at k e) ∙ new to (omega arith) ∙ ap (relabelled from to) own ∙ relabelled-no from to to (λ q. omega arith) ∙ sym (hung k here e))
      (λ (n : k ≢ from). let low = h.low k here in ap (λ x. get_or (map (relabelled from to) labels) x 0) (other k n) ∙ new (get_or parents k 0) (omega arith) ∙ ap (relabelled from to) (h.same k here) ∙ sym (new k here))
      (cases_eq k from);
  root = λ k lk e.
      let here : k < length parents = let e' = length-set parents from to in omega arith in
      ⊎_elim (λ (q : k ≡ from). absurd (let a = at k q in omega arith))
      (λ (n : k ≢ from). let mine = h.root k here (sym (other k n) ∙ e) in new k here ∙ ap (relabelled from to) mine ∙ relabelled-no from to k n) (cases_eq k from);
}
  where
    at : (k : ℕ) → k ≡ from → get_or (set parents from to) k 0 ≡ to
    at k e = ap (λ x. get_or (set parents from to) x 0) e ∙ get_or-set_same parents from to 0 lf

    other : (k : ℕ) → k ≢ from → get_or (set parents from to) k 0 ≡ get_or parents k 0
    other k n = get_or-set_other parents from k to 0 n

    new : (k : ℕ) → k < length parents → get_or (map (relabelled from to) labels) k 0 ≡ relabelled from to (get_or labels k 0)
    new k lk = get_or-map (relabelled from to) labels k 0 0 (let e = h.size in omega arith)

    hung : (k : ℕ) → k < length parents → k ≡ from → get_or (map (relabelled from to) labels) k 0 ≡ to
    hung k lk e = new k lk ∙ relabelled-yes from to (get_or labels k 0) (ap (λ x. get_or labels x 0) e ∙ top)

-- the row joins members of equal labels as they are
pub lead_same : (row : LimitRow) (labels : List ℕ) → (row.upper ≢ Some 0 → get_or labels row.seller 0 ≡ get_or labels row.buyer 0) → JoinsRow row labels labels
lead_same row labels same = record { closed = λ e m. refl; joined = λ h m l. joins_same labels row.seller row.buyer (same h) m }

-- the higher of two labels is hung below the lower one
pub lead_joined : (row : LimitRow) (parents labels : List ℕ) (a b : ℕ) → LeadTo parents labels → a < length parents → b < length parents → row.upper ≢ Some 0 → a ≡ get_or labels row.seller 0 → b ≡ get_or labels row.buyer 0 → get_or labels a 0 ≡ a → get_or labels b 0 ≡ b → a ≢ b →
    (labels' : List ℕ) × LeadTo (set parents (max a b) (min a b)) labels' × JoinsRow row labels labels'
lead_joined row parents labels a b h la lb open' ea eb owna ownb ne = (
  map (relabelled (max a b) (min a b)) labels,
  hang (cases_lt a b),
  record {
    closed = λ e m. absurd (open' e);
    joined = λ o m l. get_or-map (relabelled (max a b) (min a b)) labels m 0 0 l ∙ named m;
  },
)
  where
    named : (m : ℕ) → relabelled (max a b) (min a b) (get_or labels m 0) ≡ relabelled (max (get_or labels row.seller 0) (get_or labels row.buyer 0)) (min (get_or labels row.seller 0) (get_or labels row.buyer 0)) (get_or labels m 0)
    named m = ap (λ x. relabelled (max x b) (min x b) (get_or labels m 0)) ea ∙ ap (λ x. relabelled (max (get_or labels row.seller 0) x) (min (get_or labels row.seller 0) x) (get_or labels m 0)) eb

    hang : (a < b) ⊎ (b ≤ a) → LeadTo (set parents (max a b) (min a b)) (map (relabelled (max a b) (min a b)) labels)
    hang (inl lt) =
        let high : max a b ≡ b = omega arith in
        let low : min a b ≡ a = omega arith in
        rw (high, low) (lead_hung parents labels b a h lb lt ownb owna)
    hang (inr le) =
        let high : max a b ≡ a = omega arith in
        let low : min a b ≡ b = omega arith in
        rw (high, low) (lead_hung parents labels a b h la (omega arith) owna ownb)

-- where each member's parent is its label
pub flat_is : (parents labels : List ℕ) → LeadTo parents labels → ((k : ℕ) → k < length parents → get_or parents k 0 ≡ get_or labels k 0) → parents ≡ labels
flat_is parents labels h each = ext_get_or 0 parents labels h.size each

-- one member's label more is its parent
module _ (parents labels : List ℕ) (m : ℕ) (h : LeadTo parents labels) (lm : m < length parents) (each : (k : ℕ) → k < m → get_or parents k 0 ≡ get_or labels k 0) where
  abbrev p : ℕ
  p = get_or parents m 0

  abbrev l : ℕ
  l = get_or parents p 0

  low : p ≤ m
  low = h.low m lm

  is : (p ≡ m) ⊎ (p ≢ m) → l ≡ get_or labels m 0
  is (inl e) = ap (λ x. get_or parents x 0) e ∙ e ∙ sym (h.root m lm e)
  is (inr n) = let a = low in each p (omega arith) ∙ h.same m lm

  below : (p ≡ m) ⊎ (p ≢ m) → l ≤ m
  below (inl e) = let a = ap (λ x. get_or parents x 0) e in omega arith
  below (inr n) = let a = low in let b = h.low p (omega arith) in omega arith

  top : (p ≡ m) ⊎ (p ≢ m) → get_or parents l 0 ≡ l
  top (inl e) = ap (λ x. get_or parents x 0) (ap (λ x. get_or parents x 0) e)
  top (inr n) =
      let a = low in
      let lp : p < length parents = omega arith in
      let b = h.low p lp in
      let ll : l < length parents = omega arith in
      let first = is (inr n) in
      each l (omega arith) ∙ h.same p lp ∙ h.same m lm ∙ sym first

  at : (k : ℕ) → k ≡ m → get_or (set parents m l) k 0 ≡ get_or labels k 0
  at k e = ap (λ x. get_or (set parents m l) x 0) e ∙ get_or-set_same parents m l 0 lm ∙ is (cases_eq p m) ∙ ap (λ x. get_or labels x 0) (sym e)

  pub flat_step : LeadTo (set parents m (get_or parents (get_or parents m 0) 0)) labels × ((k : ℕ) → k < m + 1 → get_or (set parents m (get_or parents (get_or parents m 0) 0)) k 0 ≡ get_or labels k 0)
  flat_step = (
    lead_set parents labels m l h lm (below (cases_eq p m)) (top (cases_eq p m)) (is (cases_eq p m)),
    λ k lk. ⊎_elim (λ (e : k ≡ m). at k e) (λ (n : k ≢ m). get_or-set_other parents m k l 0 n ∙ each k (omega arith)) (cases_eq k m),
  )

-- and no parent is larger than its member
pub flat_low : (parents : List ℕ) (m : ℕ) → ((k : ℕ) → k < length parents → get_or parents k 0 ≤ k) → m < length parents → (k : ℕ) → k < length (set parents m (get_or parents (get_or parents m 0) 0)) → get_or (set parents m (get_or parents (get_or parents m 0) 0)) k 0 ≤ k
flat_low parents m low lm k lk =
    let l = get_or parents (get_or parents m 0) 0 in
    let size = length-set parents m l in
    let a = low m lm in
    let b = low (get_or parents m 0) (omega arith) in
    ⊎_elim (λ (e : k ≡ m). let s = ap (λ x. get_or (set parents m l) x 0) e ∙ get_or-set_same parents m l 0 lm in omega arith)
    (λ (n : k ≢ m). let s = get_or-set_other parents m k l 0 n in let q = low k (omega arith) in omega arith) (cases_eq k m)

-- the parents lead to labels by which the first rows are joined
abbrev pub AreJoinedTo : LimitsData → ℕ → List ℕ → Type 0
AreJoinedTo limits n parents = (labels : List ℕ) × LeadTo parents labels × AreSound limits labels × CoversTo limits.rows n labels

-- one row more
pub joined_more : (limits : LimitsData) (n : ℕ) (d : LimitRow) (parents parents' : List ℕ) → AreLimits limits → n < length limits.rows → length parents' ≡ length parents → AreJoinedTo limits n parents → LeadsOn (get_or limits.rows n d) parents parents' → AreJoinedTo limits (n + 1) parents'
joined_more limits n d parents parents' good l size before on =
    let now = on before.0 before.1 in
    let old = before.1.size in
    let new = now.1.size in
    let done = row_done limits before.0 now.0 n d good before.2 (omega arith) l before.3 now.2 in
    (now.0, now.1, done.0, done.1)

-- where they are their own labels, too
pub joined_flat : (limits : LimitsData) (n : ℕ) (parents parents' : List ℕ) → AreJoinedTo limits n parents → ((labels : List ℕ) → LeadTo parents labels → parents' ≡ labels) → AreJoinedTo limits n parents'
joined_flat limits n parents parents' before flat =
    let labels = before.0 in
    (labels, subst (λ xs. LeadTo xs labels) (sym (flat labels before.1)) (lead_self limits labels before.2), before.2, before.3)
