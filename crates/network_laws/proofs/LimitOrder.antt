-- Limit rows in rising order.
use Rattle.std.proofs.Common.{◌≡◌, ◌≢◌, ℕ, zero, suc, ◌+◌, ◌-◌, ◌*◌, ◌<◌, ◌≤◌, true, false, List, [], ◌∷◌, length, get_or, take, Option, Some, None, refl, sym, ap, ◌∙◌, subst, ltb, arith, ⊎_elim}
use Rattle.std.specs.Prelude.{AllPairs}
use Rattle.std.specs.List.Sorted.{IsPartitionPoint, IsNonDecreasingBy}
use Rattle.std.proofs.lemmas.Bool.{cases_eq, eqb-true, eq-eqb, and_parts, and_from, and_left, and_right, ne_eqb, false_from_ne_true, ltb-true, ltb-false, cases_lt}
use Rattle.std.proofs.lemmas.List.{get_or-take, length-take-le, take_more, get_or_default}
use Rattle.std.proofs.lemmas.List.Elements.{All-more}
use Rattle.std.proofs.lemmas.List.Quantifiers.{all_pairs_push}
use Rattle.network_laws.specs.declared.rows.LimitRow.{LimitRow}
use Rattle.network_laws.specs.Limits.{is_for, limit_place, lower_in, upper_in, IsRisingLimits, IsLimitCursor, AreLimitRows, IsGoodLimit, IsWithin}

-- one more element that is above the last
pub rising_more : {X : Type 0} (key : X → ℕ) (xs : List X) (i : ℕ) (d : X) → i < length xs → AllPairs (λ a b. key a < key b) (take i xs) → (0 < i → key (get_or xs (i - 1) d) < key (get_or xs i d)) → AllPairs (λ a b. key a < key b) (take (i + 1) xs)
rising_more {X} key xs i d l h after =
    rw (take_more xs i d) (all_pairs_push (λ (a b : X). key a < key b) (take i xs) (get_or xs i d) h below)
  where
    below : (k : ℕ) (e : X) → k < length (take i xs) → key (get_or (take i xs) k e) < key (get_or xs i d)
    below k e lk =
        let len = length-take-le i xs (omega arith) in
        let ki : k < i = omega arith in
        let at_k = ap key (get_or-take i xs k e ki) in
        ⊎_elim (λ (q : k ≡ i - 1). omega (arith, at_k, ap key (ap (λ x. get_or xs x e) q ∙ get_or_default xs (i - 1) e d (omega arith)), after (omega arith)))
        (λ (q : k ≢ i - 1). omega (arith, h k (i - 1) e (omega arith) (omega arith), ap key (get_or-take i xs (i - 1) e (omega arith) ∙ get_or_default xs (i - 1) e d (omega arith)), after (omega arith)))
        (cases_eq k (i - 1))

pub AreLimitRows-more : (n : ℕ) (rows : List LimitRow) (i : ℕ) (d : LimitRow) → i < length rows → AreLimitRows n (take i rows) → IsGoodLimit n (get_or rows i d) → (0 < i → limit_place (get_or rows (i - 1) d) < limit_place (get_or rows i d)) → AreLimitRows n (take (i + 1) rows)
AreLimitRows-more n rows i d l h good after = record {
  good = All-more (IsGoodLimit n) rows i d l h.good good;
  rising = rising_more limit_place rows i d l h.rising after;
}

pub is_for-other : (i j : ℕ) (row : LimitRow) → (limit_place row ≡ i * 65536 + j → ⊥) → is_for i j row ≡ false
is_for-other i j row ne =
    false_from_ne_true (is_for i j row) (λ t. let p = and_parts _ _ t in ne (omega (arith, eqb-true row.seller i p.0, eqb-true row.buyer j p.1)))

pub is_for-yes : (i j : ℕ) (row : LimitRow) → row.seller ≡ i → row.buyer ≡ j → is_for i j row ≡ true
is_for-yes i j row e e' = and_from _ _ (eq-eqb row.seller i e) (eq-eqb row.buyer j e')

pub is_for-seller : (i j : ℕ) (row : LimitRow) → (row.seller ≡ i → ⊥) → is_for i j row ≡ false
is_for-seller i j row ne = and_left _ _ (ne_eqb row.seller i ne)

pub is_for-buyer : (i j : ℕ) (row : LimitRow) → (row.buyer ≡ j → ⊥) → is_for i j row ≡ false
is_for-buyer i j row ne = and_right _ _ (ne_eqb row.buyer j ne)

-- the bounds of a pair are those of its first row
pub lookup_at : (rows : List LimitRow) (i j m : ℕ) (d : LimitRow) → m < length rows → ((k : ℕ) (e : LimitRow) → k < m → is_for i j (get_or rows k e) ≡ false) → is_for i j (get_or rows m d) ≡ true → (lower_in rows i j ≡ (get_or rows m d).lower) × (upper_in rows i j ≡ (get_or rows m d).upper)
lookup_at [] i j m d l before here = absurd (omega arith)
lookup_at (row ∷ rows) i j zero d l before here = (rw here refl, rw here refl)
lookup_at (row ∷ rows) i j (suc m) d l before here =
    let no : is_for i j row ≡ false = before 0 row (omega arith) in
    let rest = lookup_at rows i j m d (omega arith) (λ k e lk. before (suc k) e (omega arith)) here in
    (rw no rest.0, rw no rest.1)

pub lookup_none : (rows : List LimitRow) (i j : ℕ) → ((k : ℕ) (e : LimitRow) → k < length rows → is_for i j (get_or rows k e) ≡ false) → (lower_in rows i j ≡ 0) × (upper_in rows i j ≡ Some 0)
lookup_none [] i j none = (refl, refl)
lookup_none (row ∷ rows) i j none =
    let no : is_for i j row ≡ false = none 0 row (omega arith) in
    let rest = lookup_none rows i j (λ k e lk. none (suc k) e (omega arith)) in
    (rw no rest.0, rw no rest.1)

pub within_some : (z u : ℕ) (high : Option ℕ) → high ≡ Some u → z ≤ u → IsWithin z high
within_some z u high e le = subst (IsWithin z) (sym e) le

pub within_none : (z : ℕ) (high : Option ℕ) → high ≡ None → IsWithin z high
within_none z high e = subst (IsWithin z) (sym e) tt

-- what stands at the cursor of a pair
module _ (rows : List LimitRow) (i j m : ℕ) (rising : IsRisingLimits rows) (cursor : IsLimitCursor rows m (i * 65536 + j)) where
  before_cursor : (k : ℕ) (e : LimitRow) → k < m → is_for i j (get_or rows k e) ≡ false
  before_cursor k e lk = is_for-other i j (get_or rows k e) (λ q. omega (arith, cursor.before k e lk))

  pub found_at : (d : LimitRow) → m < length rows → is_for i j (get_or rows m d) ≡ true → (lower_in rows i j ≡ (get_or rows m d).lower) × (upper_in rows i j ≡ (get_or rows m d).upper)
  found_at d l here = lookup_at rows i j m d l before_cursor here

  pub found_none : ((d : LimitRow) → m < length rows → is_for i j (get_or rows m d) ≡ false) → (lower_in rows i j ≡ 0) × (upper_in rows i j ≡ Some 0)
  found_none here = lookup_none rows i j none
    where
      none : (k : ℕ) (e : LimitRow) → k < length rows → is_for i j (get_or rows k e) ≡ false
      none k e lk =
          ⊎_elim (λ (b : k < m). before_cursor k e b)
          (λ (b : m ≤ k). ⊎_elim (λ (q : k ≡ m). rw q (here e (omega arith)))
          (λ (q : k ≢ m). is_for-other i j (get_or rows k e) (λ same. omega (arith, cursor.behind m e (omega arith) (omega arith), rising m k e (omega arith) lk)))
          (cases_eq k m))
          (cases_lt k m)

-- places rise
pub not_falling : (rows : List LimitRow) → IsRisingLimits rows → IsNonDecreasingBy limit_place rows
not_falling rows h i j d le l =
    ⊎_elim (λ (q : i ≡ j). omega (arith, ap (λ x. limit_place (get_or rows x d)) q)) (λ (q : i ≢ j). omega (arith, h i j d (omega arith) l)) (cases_eq i j)

-- where a search by place stopped is a cursor
pub cursor_from_point : (rows : List LimitRow) (m w : ℕ) → m ≤ length rows → IsPartitionPoint (λ y. ltb (limit_place y) w ≡ true) (λ y. ltb (limit_place y) w ≡ false) rows m → IsLimitCursor rows m w
cursor_from_point rows m w le point = record {
  before = λ k d lk. ltb-true _ _ (point.0 k d (omega arith) lk);
  behind = λ k d km lk. ltb-false _ _ (point.1 k d km lk);
}

-- past the row of a pair, and at a row of a later one
pub cursor_past : (rows : List LimitRow) (m w : ℕ) (x : LimitRow) → IsRisingLimits rows → IsLimitCursor rows m w → m < length rows → limit_place (get_or rows m x) ≡ w → IsLimitCursor rows (m + 1) (w + 1)
cursor_past rows m w x rising c l e = record {
  before = λ k d lk.
      ⊎_elim (λ (q : k ≡ m). omega (arith, ap (λ y. limit_place (get_or rows y d)) q, ap limit_place (get_or_default rows m x d l)))
      (λ (q : k ≢ m). omega (arith, c.before k d (omega arith)))
      (cases_eq k m);
  behind = λ k d km lk. omega (arith, rising m k d (omega arith) lk, ap limit_place (get_or_default rows m x d l));
}

pub cursor_stays : (rows : List LimitRow) (m w : ℕ) → IsRisingLimits rows → IsLimitCursor rows m w → ((d : LimitRow) → m < length rows → limit_place (get_or rows m d) ≢ w) → IsLimitCursor rows m (w + 1)
cursor_stays rows m w rising c other = record {
  before = λ k d lk. omega (arith, c.before k d lk);
  behind = λ k d km lk.
      ⊎_elim (λ (q : k ≡ m).
      let l : m < length rows = omega arith in
      let ne = other d l in
      let ge : w ≤ limit_place (get_or rows m d) = c.behind m d (omega arith) l in
      let gt : w + 1 ≤ limit_place (get_or rows m d) = omega arith in
      omega (arith, ap (λ y. limit_place (get_or rows y d)) q))
      (λ (q : k ≢ m). omega (arith, rising m k d (omega arith) lk, c.behind m d (omega arith) (omega arith)))
      (cases_eq k m);
}
