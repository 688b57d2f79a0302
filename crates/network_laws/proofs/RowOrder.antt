-- Rows in rising order.
use Rattle.std.proofs.Common.{◌≡◌, ◌≢◌, ℕ, ◌+◌, ◌-◌, ◌*◌, ◌^◌, ◌<◌, ◌≤◌, List, length, get_or, take, drop, sum_by, sym, ap, ◌∙◌, arith, ⊎_elim, ltb, true, false}
use Rattle.std.specs.List.Sorted.{IsPartitionPoint, IsNonDecreasingBy}
use Rattle.std.proofs.lemmas.Bool.{cases_eq, ltb-true, ltb-false}
use Rattle.std.proofs.lemmas.List.{get_or-take, get_or-drop, length-take-le, length-drop, take_more, get_or_default}
use Rattle.std.proofs.lemmas.List.Elements.{All-more}
use Rattle.std.proofs.lemmas.List.Quantifiers.{all_pairs_push}
use Rattle.std.proofs.lemmas.List.Sums.{sum_by-le, sum_by-take-drop, sum_by-drop_more, sum_by_more}
use Rattle.network_laws.specs.declared.rows.Row.{Row}
use Rattle.network_laws.specs.Networks.{place, pair_part, amount_in, total, IsRising, IsCursor, AreRows, IsGoodRow}
use Rattle.network_laws.proofs.RowSums.{pair_part-seller, pair_part-buyer}

-- one more row
pub AreRows-more : (n : ℕ) (rows : List Row) (i : ℕ) (d : Row) → i < length rows → AreRows n (take i rows) → IsGoodRow n (get_or rows i d) → (0 < i → place (get_or rows (i - 1) d) < place (get_or rows i d)) → total (take i rows) + (get_or rows i d).amount ≤ 10 ^ 18 → AreRows n (take (i + 1) rows)
AreRows-more n rows i d l h good after within = record {
  good = All-more (IsGoodRow n) rows i d l h.good good;
  rising = rw (take_more rows i d) (all_pairs_push (λ (a b : Row). place a < place b) (take i rows) (get_or rows i d) h.rising below);
  within = omega (arith, sum_by_more (λ (row : Row). row.amount) rows i d l);
}
  where
    below : (k : ℕ) (e : Row) → k < length (take i rows) → place (get_or (take i rows) k e) < place (get_or rows i d)
    below k e lk =
        let len = length-take-le i rows (omega arith) in
        let ki : k < i = omega arith in
        let at_k = ap place (get_or-take i rows k e ki) in
        ⊎_elim (λ (q : k ≡ i - 1). omega (arith, at_k, ap place (ap (λ x. get_or rows x e) q ∙ get_or_default rows (i - 1) e d (omega arith)), after (omega arith)))
        (λ (q : k ≢ i - 1). omega (arith, h.rising k (i - 1) e (omega arith) (omega arith), ap place (get_or-take i rows (i - 1) e (omega arith) ∙ get_or_default rows (i - 1) e d (omega arith)), after (omega arith)))
        (cases_eq k (i - 1))

-- nothing in a list whose terms are 0
pub sum_by-none : {X : Type 0} (f : X → ℕ) (xs : List X) → ((k : ℕ) (d : X) → k < length xs → f (get_or xs k d) ≡ 0) → sum_by f xs ≡ 0
sum_by-none f xs h = omega (arith, sum_by-le f 0 xs (λ k d l. omega (arith, h k d l)))

-- another place, no part
pub pair_part-other : (i j : ℕ) (row : Row) → (i * 65536 + j ≡ place row → ⊥) → pair_part i j row ≡ 0
pair_part-other i j row ne =
    ⊎_elim (λ (e : i ≡ row.seller). ⊎_elim (λ (e' : j ≡ row.buyer). absurd (ne (omega arith)))
    (λ (n' : j ≢ row.buyer). pair_part-buyer i j row e n') (cases_eq j row.buyer))
    (λ (n : i ≢ row.seller). pair_part-seller i j row n)
    (cases_eq i row.seller)

pub amount_none : (rows : List Row) (i j : ℕ) → ((k : ℕ) (d : Row) → k < length rows → place (get_or rows k d) ≢ i * 65536 + j) → amount_in rows i j ≡ 0
amount_none rows i j h = sum_by-none (pair_part i j) rows (λ k d l. pair_part-other i j (get_or rows k d) (λ e. h k d l (sym e)))

-- what stands at the first place that is not before a pair's
pub amount_here : (rows : List Row) (i j m : ℕ) (d : Row) → m < length rows → IsRising rows → ((k : ℕ) (d : Row) → k < m → place (get_or rows k d) < i * 65536 + j) → ((k : ℕ) (d : Row) → m ≤ k → k < length rows → i * 65536 + j ≤ place (get_or rows k d)) → amount_in rows i j ≡ pair_part i j (get_or rows m d)
amount_here rows i j m d l rising below above =
    let f = pair_part i j in
    let front = sum_by-none f (take m rows) (λ k e lk. before k e lk) in
    let back = sum_by-none f (drop (m + 1) rows) (λ k e lk. after k e lk) in
    omega (arith, sum_by-take-drop f rows m, sum_by-drop_more f rows m d l, front, back)
  where
    before : (k : ℕ) (e : Row) → k < length (take m rows) → pair_part i j (get_or (take m rows) k e) ≡ 0
    before k e lk =
        let km : k < m = omega (arith, length-take-le m rows (omega arith)) in
        ap (pair_part i j) (get_or-take m rows k e km) ∙ pair_part-other i j (get_or rows k e) (λ q. omega (arith, below k e km))

    after : (k : ℕ) (e : Row) → k < length (drop (m + 1) rows) → pair_part i j (get_or (drop (m + 1) rows) k e) ≡ 0
    after k e lk =
        let inside : (m + 1) + k < length rows = omega (arith, length-drop (m + 1) rows) in
        ap (pair_part i j) (get_or-drop (m + 1) rows k e) ∙ pair_part-other i j (get_or rows ((m + 1) + k) e) (λ q. omega (arith, rising m ((m + 1) + k) e (omega arith) inside, above m e (omega arith) l))

pub pair_part-other_buyer : (i j : ℕ) (row : Row) → (row.buyer ≡ j → ⊥) → pair_part i j row ≡ 0
pair_part-other_buyer i j row ne =
    ⊎_elim (λ (e : i ≡ row.seller). pair_part-buyer i j row e (λ q. ne (sym q))) (λ (n : i ≢ row.seller). pair_part-seller i j row n) (cases_eq i row.seller)

-- places rise
pub not_falling : (rows : List Row) → IsRising rows → IsNonDecreasingBy place rows
not_falling rows h i j d le l =
    ⊎_elim (λ (q : i ≡ j). omega (arith, ap (λ x. place (get_or rows x d)) q)) (λ (q : i ≢ j). omega (arith, h i j d (omega arith) l)) (cases_eq i j)

-- where a search by place stopped is a cursor
pub cursor_from_point : (rows : List Row) (m w : ℕ) → m ≤ length rows → IsPartitionPoint (λ y. ltb (place y) w ≡ true) (λ y. ltb (place y) w ≡ false) rows m → IsCursor rows m w
cursor_from_point rows m w le point = record {
  before = λ k d lk. ltb-true _ _ (point.0 k d (omega arith) lk);
  behind = λ k d km lk. ltb-false _ _ (point.1 k d km lk);
}

-- past the row of a pair, and at a row of a later one
pub cursor_past : (rows : List Row) (m w : ℕ) (x : Row) → IsRising rows → IsCursor rows m w → m < length rows → place (get_or rows m x) ≡ w → IsCursor rows (m + 1) (w + 1)
cursor_past rows m w x rising c l e = record {
  before = λ k d lk.
      ⊎_elim (λ (q : k ≡ m). omega (arith, ap (λ y. place (get_or rows y d)) q, ap place (get_or_default rows m x d l)))
      (λ (q : k ≢ m). omega (arith, c.before k d (omega arith)))
      (cases_eq k m);
  behind = λ k d km lk. omega (arith, rising m k d (omega arith) lk, ap place (get_or_default rows m x d l));
}

pub cursor_stays : (rows : List Row) (m w : ℕ) → IsRising rows → IsCursor rows m w → ((d : Row) → m < length rows → place (get_or rows m d) ≢ w) → IsCursor rows m (w + 1)
cursor_stays rows m w rising c other = record {
  before = λ k d lk. omega (arith, c.before k d lk);
  behind = λ k d km lk.
      ⊎_elim (λ (q : k ≡ m).
      let l : m < length rows = omega arith in
      let ne = other d l in
      let ge : w ≤ place (get_or rows m d) = c.behind m d (omega arith) l in
      let gt : w + 1 ≤ place (get_or rows m d) = omega arith in
      omega (arith, ap (λ y. place (get_or rows y d)) q))
      (λ (q : k ≢ m). omega (arith, rising m k d (omega arith) lk, c.behind m d (omega arith) (omega arith)))
      (cases_eq k m);
}
