-- The tables take one more row, and the positive net positions are within the gross.
use Rattle.std.proofs.Common.{◌≡◌, ◌≢◌, ℕ, ◌+◌, ◌-◌, ◌<◌, ◌≤◌, List, [], length, get_or, take, set, replicate, ap, ◌∙◌, arith, ⊎_elim}
use Rattle.std.proofs.lemmas.Bool.{cases_eq}
use Rattle.std.proofs.lemmas.List.{get_or-set_same, get_or-set_other, length-set, get_or-replicate, length-replicate}
use Rattle.std.proofs.lemmas.List.Sums.{sum_by_more, sum_by_more_le_part, sum_by-le-sum_by}
use Rattle.network_laws.specs.declared.rows.Row.{Row}
use Rattle.network_laws.specs.Networks.{NetworkData, sold_part, bought_part, sold_in, bought_in, sold, bought, floor_m, total, sum_below}
use Rattle.network_laws.proofs.RowSums.{sold_part-other, sold_part-same, bought_part-other, bought_part-same}
use Rattle.network_laws.proofs.Figures.{sold_part-le, bought_part-le, sum_below-same, sum_below-le, sum_below-sold}
use Rattle.net_positions.specs.Tables.{AreTotals, positive_at}

pub none_yet : AreTotals [] (replicate 256 0) (replicate 256 0)
none_yet = record {
  sold_full = length-replicate {A = ℕ} 256 0;
  bought_full = length-replicate {A = ℕ} 256 0;
  sold_each = λ i l. get_or-replicate 256 i 0 0 l;
  bought_each = λ i l. get_or-replicate 256 i 0 0 l;
}

-- a sum that grew at one place, by place
raised : (n : ℕ) (xs : List ℕ) (k x i new : ℕ) → length xs ≡ n → k < n → i < n → (i ≡ k → x ≡ new) → (i ≢ k → get_or xs i 0 ≡ new) → get_or (set xs k x) i 0 ≡ new
raised n xs k x i new full in_k in_i same other =
    ⊎_elim (λ (e : i ≡ k). ap (λ m. get_or (set xs k x) m 0) e ∙ get_or-set_same xs k x 0 (omega arith) ∙ same e) (λ (ne : i ≢ k). get_or-set_other xs k i x 0 ne ∙ other ne) (cases_eq i k)

-- one more row
pub totals_more : (rows : List Row) (k : ℕ) (d : Row) (xs ys : List ℕ) → k < length rows → AreTotals (take k rows) xs ys → (get_or rows k d).seller < 256 → (get_or rows k d).buyer < 256 → AreTotals (take (k + 1) rows) (set xs (get_or rows k d).seller (get_or xs (get_or rows k d).seller 0 + (get_or rows k d).amount)) (set ys (get_or rows k d).buyer (get_or ys (get_or rows k d).buyer 0 + (get_or rows k d).amount))
totals_more rows k d xs ys l h in_s in_b = record {
  sold_full = length-set xs (get_or rows k d).seller (get_or xs (get_or rows k d).seller 0 + (get_or rows k d).amount) ∙ h.sold_full;
  bought_full = length-set ys (get_or rows k d).buyer (get_or ys (get_or rows k d).buyer 0 + (get_or rows k d).amount) ∙ h.bought_full;
  sold_each = λ i in_i.
      let row = get_or rows k d in
      let more = sum_by_more (sold_part i) rows k d l in
      raised 256 xs row.seller (get_or xs row.seller 0 + row.amount) i (sold_in (take (k + 1) rows) i) h.sold_full in_s in_i
      (λ e. omega (arith, more, h.sold_each i in_i, ap (λ m. get_or xs m 0) e, ap (λ m. sold_part m row) e, sold_part-same row))
      (λ ne. omega (arith, more, h.sold_each i in_i, sold_part-other i row ne));
  bought_each = λ i in_i.
      let row = get_or rows k d in
      let more = sum_by_more (bought_part i) rows k d l in
      raised 256 ys row.buyer (get_or ys row.buyer 0 + row.amount) i (bought_in (take (k + 1) rows) i) h.bought_full in_b in_i
      (λ e. omega (arith, more, h.bought_each i in_i, ap (λ m. get_or ys m 0) e, ap (λ m. bought_part m row) e, bought_part-same row))
      (λ ne. omega (arith, more, h.bought_each i in_i, bought_part-other i row ne));
}

-- what a member sold so far, with the next row, is within the gross
pub sold_fits : (rows : List Row) (k i : ℕ) (d : Row) → k < length rows → sold_in (take k rows) i + (get_or rows k d).amount ≤ total rows
sold_fits rows k i d l = sum_by_more_le_part (sold_part i) (λ (r : Row). r.amount) rows k d l (sold_part-le i)

pub bought_fits : (rows : List Row) (k i : ℕ) (d : Row) → k < length rows → bought_in (take k rows) i + (get_or rows k d).amount ≤ total rows
bought_fits rows k i d l = sum_by_more_le_part (bought_part i) (λ (r : Row). r.amount) rows k d l (bought_part-le i)

pub sold_in-le : (rows : List Row) (i : ℕ) → sold_in rows i ≤ total rows
sold_in-le rows i = sum_by-le-sum_by (sold_part i) (λ (r : Row). r.amount) rows (sold_part-le i)

pub bought_in-le : (rows : List Row) (i : ℕ) → bought_in rows i ≤ total rows
bought_in-le rows i = sum_by-le-sum_by (bought_part i) (λ (r : Row). r.amount) rows (bought_part-le i)

pub positive_sum-is : (y : NetworkData) (xs ys : List ℕ) → AreTotals y.rows xs ys → y.members ≤ 256 → sum_below y.members (positive_at xs ys) ≡ floor_m y
positive_sum-is y xs ys h few =
    sum_below-same y.members (positive_at xs ys) (λ i. sold y i - bought y i) (λ i l. omega (arith, h.sold_each i (omega arith), h.bought_each i (omega arith)))

pub floor_m-within : (y : NetworkData) → floor_m y ≤ total y.rows
floor_m-within y =
    omega (arith, sum_below-le y.members (λ i. sold y i - bought y i) (sold y) (λ i _. omega arith), sum_below-sold y.members y.rows)
