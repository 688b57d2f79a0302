-- A walk over the rows of a network in step with those of its limits.
use Rattle.std.proofs.Common.{◌≡◌, ◌≢◌, ℕ, ◌+◌, ◌*◌, ◌<◌, ◌≤◌, List, length, get_or, ap, sym, ◌∙◌, arith, ⊎_elim}
use Rattle.std.proofs.lemmas.Bool.{cases_eq, cases_lt}
use Rattle.std.proofs.lemmas.List.{get_or_default}
use Rattle.network_laws.specs.declared.rows.Row.{Row}
use Rattle.network_laws.specs.declared.rows.LimitRow.{LimitRow}
use Rattle.std.specs.Prelude.{All}
use Rattle.network_laws.specs.Networks.{place, amount_in, IsRising, IsGoodRow}
use Rattle.network_laws.specs.Limits.{limit_place, IsRisingLimits, IsGoodLimit}
use Rattle.network_laws.proofs.RowOrder.{amount_none, amount_here}
use Rattle.network_laws.proofs.RowSums.{pair_part-is}
use Rattle.residual_graph.specs.Built.{HaveLimits}
use Rattle.residual_graph.specs.NextRow.{IsRowOf}

-- the walks stand at row number m and at limit row number k: what is behind the one is not behind the other
pub record AreInStep (sales : List Row) (rows : List LimitRow) (m k : ℕ) : Type 0 where
  pub passed : (j n : ℕ) (d : Row) (e : LimitRow) → j < m → k ≤ n → n < length rows → place (get_or sales j d) < limit_place (get_or rows n e)
  pub ahead : (j n : ℕ) (d : Row) (e : LimitRow) → m ≤ j → j < length sales → n < k → limit_place (get_or rows n e) < place (get_or sales j d)

module _ (sales : List Row) (rows : List LimitRow) (m k : ℕ) (rising : IsRising sales) (rising_limits : IsRisingLimits rows) (step : AreInStep sales rows m k) (in_rows : k < length rows) (d : Row) (e : LimitRow) where
  -- both rows are of one pair
  module _ (in_sales : m < length sales) (same : limit_place (get_or rows k e) ≡ place (get_or sales m d)) where
    pub both_on : AreInStep sales rows (m + 1) (k + 1)
    both_on = record {
      passed = λ j n d' e' lj le l.
          ⊎_elim (λ (q : j ≡ m). omega (arith, ap (λ i. place (get_or sales i d')) q, ap place (get_or_default sales m d d' in_sales), same, rising_limits k n e' (omega (arith, le)) l, ap limit_place (get_or_default rows k e e' in_rows)))
          (λ (ne : j ≢ m). step.passed j n d' e' (omega (arith, lj, ne)) (omega (arith, le)) l)
          (cases_eq j m);
      ahead = λ j n d' e' le l ln.
          let later = rising m j d' (omega (arith, le)) l in
          let here = ap place (get_or_default sales m d d' in_sales) in
          ⊎_elim (λ (q : n ≡ k). omega (arith, ap (λ i. limit_place (get_or rows i e')) q, ap limit_place (get_or_default rows k e e' in_rows), same, here, later))
          (λ (ne : n ≢ k). step.ahead j n d' e' (omega (arith, le)) l (omega (arith, ln, ne)))
          (cases_eq n k);
    }

  -- the limit row has no row
  module _ (limited : HaveLimits sales rows) (other : m < length sales → limit_place (get_or rows k e) ≢ place (get_or sales m d)) where
    before_next : m < length sales → limit_place (get_or rows k e) < place (get_or sales m d)
    before_next l =
        ⊎_elim (λ (yes : limit_place (get_or rows k e) < place (get_or sales m d)). yes)
        (λ (no : place (get_or sales m d) ≤ limit_place (get_or rows k e)).
        absurd (limited m d l (λ n e' ln q.
        ⊎_elim (λ (lt : n < k). omega (arith, step.ahead m n d e' (omega arith) l lt, q))
        (λ (le : k ≤ n).
        ⊎_elim (λ (at : n ≡ k). other l (sym (ap limit_place (get_or_default rows k e' e in_rows)) ∙ sym (ap (λ i. limit_place (get_or rows i e')) at) ∙ q))
        (λ (ne : n ≢ k). omega (arith, rising_limits k n e' (omega (arith, le, ne)) ln, ap limit_place (get_or_default rows k e e' in_rows), other l, no, q))
        (cases_eq n k))
        (cases_lt n k))))
        (cases_lt (limit_place (get_or rows k e)) (place (get_or sales m d)))

    before_all : (j : ℕ) (d' : Row) → m ≤ j → j < length sales → limit_place (get_or rows k e) < place (get_or sales j d')
    before_all j d' le l =
        let first = before_next (omega (arith, le, l)) in
        ⊎_elim (λ (q : j ≡ m). omega (arith, first, ap (λ i. place (get_or sales i d')) q, ap place (get_or_default sales m d d' (omega (arith, le, l)))))
        (λ (ne : j ≢ m). omega (arith, first, rising m j d' (omega (arith, le, ne)) l, ap place (get_or_default sales m d d' (omega (arith, le, l)))))
        (cases_eq j m)

    pub limit_on : AreInStep sales rows m (k + 1)
    limit_on = record {
      passed = λ j n d' e' lj le l. step.passed j n d' e' lj (omega (arith, le)) l;
      ahead = λ j n d' e' le l ln.
          ⊎_elim (λ (q : n ≡ k). omega (arith, before_all j d' le l, ap (λ i. limit_place (get_or rows i e')) q, ap limit_place (get_or_default rows k e e' in_rows)))
          (λ (ne : n ≢ k). step.ahead j n d' e' le l (omega (arith, ln, ne)))
          (cases_eq n k);
    }

    pub no_amount : amount_in sales (get_or rows k e).seller (get_or rows k e).buyer ≡ 0
    no_amount =
        amount_none sales (get_or rows k e).seller (get_or rows k e).buyer (λ j d' l q.
        ⊎_elim (λ (lt : j < m). omega (arith, step.passed j k d' e lt (omega arith) in_rows, q))
        (λ (le : m ≤ j). omega (arith, before_all j d' le l, q))
        (cases_lt j m))

-- the amount of the next row's pair
pub next_amount : (sales : List Row) (m : ℕ) (limit : LimitRow) (d : Row) → IsRising sales → IsRowOf sales m limit → amount_in sales limit.seller limit.buyer ≡ (get_or sales m d).amount
next_amount sales m limit d rising is =
    let same : limit.seller * 65536 + limit.buyer ≡ place (get_or sales m d) = omega (arith, is.seller d, is.buyer d) in
    amount_here sales limit.seller limit.buyer m d is.within rising
    (λ j d' l. omega (arith, rising j m d' l is.within, same, ap place (get_or_default sales m d d' is.within)))
    (λ j d' le l.
    ⊎_elim (λ (q : j ≡ m). omega (arith, same, ap (λ i. place (get_or sales i d')) q, ap place (get_or_default sales m d d' is.within)))
    (λ (ne : j ≢ m). omega (arith, rising m j d' (omega (arith, le, ne)) l, same, ap place (get_or_default sales m d d' is.within)))
    (cases_eq j m))
    ∙ pair_part-is limit.seller limit.buyer (get_or sales m d) (sym (is.seller d)) (sym (is.buyer d))

-- a row whose place is that of a pair with limits is the pair's
pub own_pair : (n : ℕ) (sales : List Row) (rows : List LimitRow) (m k : ℕ) (d : Row) (e : LimitRow) → n ≤ 256 → All (IsGoodRow n) sales → All (IsGoodLimit n) rows → m < length sales → k < length rows → limit_place (get_or rows k e) ≡ place (get_or sales m d) → IsRowOf sales m (get_or rows k e)
own_pair n sales rows m k d e few good good_limits l lk same =
    let row = good m d l in
    let limit = good_limits k e lk in
    let seller : (get_or rows k e).seller ≡ (get_or sales m d).seller = omega (arith, same, few, row.buyer, limit.buyer) in
    let buyer : (get_or rows k e).buyer ≡ (get_or sales m d).buyer = omega (arith, same, few, row.buyer, limit.buyer) in
    record {
      within = l;
      seller = λ d'. seller ∙ ap (λ (r : Row). r.seller) (get_or_default sales m d d' l);
      buyer = λ d'. buyer ∙ ap (λ (r : Row). r.buyer) (get_or_default sales m d d' l);
    }
