-- The gross of each product, one trade more.
use Rattle.std.proofs.Common.{◌≡◌, ◌≢◌, ◌<◌, ◌≤◌, ◌+◌, ◌&&◌, ◌==◌, ℕ, List, length, length-set, set, take, get_or, if◌then◌else◌, refl, sym, ap, ◌∙◌, subst, arith, ⊎_elim}
use Rattle.std.proofs.lemmas.Bool.{cases_eq, eq-eqb, ne_eqb}
use Rattle.std.proofs.lemmas.List.{get_or-set_other, get_or-set_same}
use Rattle.std.proofs.lemmas.List.Sums.{sum_by_more, sum_by-take-le}
use Rattle.command_types.specs.declared.trade.TradeRow.{TradeRow}
use Rattle.command_types.specs.Trades.{counts, gross_of}

-- what a trade adds to a product's gross
abbrev pub part_of : ℕ → TradeRow → ℕ
part_of product row = if (row.product == product) && counts row.state then row.amount else 0

own_part : (row : TradeRow) → part_of row.product row ≡ (if counts row.state then row.amount else 0)
own_part row = ap (λ b. if b && counts row.state then row.amount else 0) (eq-eqb row.product row.product refl)

other_part : (product : ℕ) (row : TradeRow) → row.product ≢ product → part_of product row ≡ 0
other_part product row other = ap (λ b. if b && counts row.state then row.amount else 0) (ne_eqb row.product product other)

one_more : (product : ℕ) (rows : List TradeRow) (i : ℕ) (row : TradeRow) → i < length rows → row ≡ get_or rows i row → gross_of product (take (i + 1) rows) ≡ gross_of product (take i rows) + part_of product row
one_more product rows i row lt is =
    sum_by_more (part_of product) rows i row lt ∙ ap (λ r. gross_of product (take i rows) + part_of product r) (sym is)

-- each product has its sum, and none passes what is allowed
pub record AreSums (count most : ℕ) (sums : List ℕ) (rows : List TradeRow) : Type 0 where
  pub long : length sums ≡ count
  pub each : (product : ℕ) → product < length sums → get_or sums product 0 ≡ gross_of product rows
  pub within : (product : ℕ) → gross_of product rows ≤ most

module _ (count most : ℕ) (sums : List ℕ) (rows : List TradeRow) (i : ℕ) (row : TradeRow) (lt : i < length rows) (is : row ≡ get_or rows i row) (are : AreSums count most sums (take i rows))
    (there : row.product < length sums) (part : ℕ) (counted : part ≡ (if counts row.state then row.amount else 0)) where
  -- what the sum of the trade's product comes to
  pub own_sum : get_or sums row.product 0 + part ≡ gross_of row.product (take (i + 1) rows)
  own_sum = let own = own_part row in omega (arith, are.each row.product there, counted, one_more row.product rows i row lt is, own)

  pub sums_more : (sum : ℕ) → sum ≡ get_or sums row.product 0 + part → sum ≤ most → AreSums count most (set sums row.product sum) (take (i + 1) rows)
  sums_more sum total low = record {
    long = length-set sums row.product sum ∙ are.long;
    each = λ product in_range.
        ⊎_elim (λ (same : product ≡ row.product).
        ap (λ p. get_or (set sums row.product sum) p 0) same ∙ get_or-set_same sums row.product sum 0 there ∙ total ∙ own_sum ∙ ap (λ p. gross_of p (take (i + 1) rows)) (sym same))
        (λ (other : product ≢ row.product).
        get_or-set_other sums row.product product sum 0 other ∙ are.each product (kept product in_range) ∙ stays product (λ e. other (sym e)))
        (cases_eq product row.product);
    within = λ product.
        ⊎_elim (λ (same : product ≡ row.product).
        subst (λ p. gross_of p (take (i + 1) rows) ≤ most) (sym same) (omega (arith, total, own_sum, low)))
        (λ (other : product ≢ row.product).
        let so_far = are.within product in
        omega (arith, so_far, stays product (λ e. other (sym e))))
        (cases_eq product row.product);
  }
    where
      kept : (product : ℕ) → product < length (set sums row.product sum) → product < length sums
      kept product in_range = omega (arith, in_range, length-set sums row.product sum)

      stays : (product : ℕ) → row.product ≢ product → gross_of product (take i rows) ≡ gross_of product (take (i + 1) rows)
      stays product other = omega (arith, one_more product rows i row lt is, other_part product row other)

  -- a sum over what is allowed stays so
  pub sum_over : (sum : ℕ) → sum ≡ get_or sums row.product 0 + part → most < sum → ((product : ℕ) → gross_of product rows ≤ most) → ⊥
  sum_over sum total over bounded =
      let all = bounded row.product in
      omega (arith, total, own_sum, over, all, sum_by-take-le (part_of row.product) rows (i + 1))

pub sums_none : (count most : ℕ) (sums : List ℕ) (rows : List TradeRow) → length sums ≡ count → ((product : ℕ) → product < length sums → get_or sums product 0 ≡ 0) → AreSums count most sums (take 0 rows)
sums_none count most sums rows long none = record { long = long; each = none; within = λ product. omega arith }
