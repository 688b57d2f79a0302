-- A plan, step by step.
use Rattle.std.proofs.Common.{◌≡◌, ℕ, suc, ◌+◌, ◌-◌, ◌<◌, ◌≤◌, ◌++◌, ◌∷◌, [], Bool, true, false, cond, ◌&&◌, List, length, get_or, drop, nat_le, refl, sym, ap, ◌∙◌, arith, add-one, eqb}
use Rattle.std.specs.Prelude.{filter}
use Rattle.std.proofs.Math.Seq.{drop-cons}
use Rattle.std.proofs.lemmas.Bool.{eqb-true}
use Rattle.std.proofs.lemmas.Bool.Decides.{nat_tests}
use Rattle.std.proofs.lemmas.List.{append_assoc}
use Rattle.std.proofs.lemmas.List.Sums.{sum_by-le-sum_by}
use Rattle.network_laws.specs.declared.rows.Row.{Row}
use Rattle.network_laws.specs.Networks.{amount_in, pair_part, total}
use Rattle.command_types.specs.declared.plan.PlanRow.{PlanRow}
use Rattle.command_types.specs.declared.plan.PlanRow.TheVariants.{End, Cut}
use Rattle.command_types.specs.declared.trade.TradeRow.{TradeRow}
use Rattle.command_types.specs.Books.{listed_below}
use Rattle.command_types.specs.Plans.{falling}
use Rattle.acceptance.specs.Planning.{row_fall}

-- what is listed of one place more
pub one_more : {T : Type 0} (n : ℕ) (f : ℕ → List T) (start before after more : List T) → before ≡ start ++ listed_below n f → after ≡ before ++ more → more ≡ f n → after ≡ start ++ listed_below (n + 1) f
one_more n f start before after more e e' e'' =
    e' ∙ ap (λ xs. xs ++ more) e ∙ ap (λ xs. (start ++ listed_below n f) ++ xs) e'' ∙ append_assoc start (listed_below n f) (f n)
    ∙ ap (λ xs. start ++ xs) (sym (ap (λ k. listed_below k f) (add-one n)))

falling_zero : (rows : List TradeRow) → falling 0 rows ≡ []
falling_zero [] = refl
falling_zero (row ∷ rows) = refl

spent : (fall : ℕ) (rows : List TradeRow) → fall ≡ 0 → falling fall rows ≡ []
spent fall rows e = ap (λ n. falling n rows) e ∙ falling_zero rows

step_then_rest : (end cut : PlanRow) (none fits : Bool) (rest : List PlanRow) → (none ≡ true → rest ≡ []) → (fits ≡ false → rest ≡ []) →
    cond none [] (cond fits (end ∷ rest) (cut ∷ [])) ≡ cond none [] (cond fits (end ∷ []) (cut ∷ [])) ++ rest
step_then_rest end cut true fits rest h h' = sym (h refl)
step_then_rest end cut false true rest h h' = refl
step_then_rest end cut false false rest h h' = sym (ap (λ xs. cut ∷ xs) (h' refl))

-- trades fall one by one
pub falling_more : (fall : ℕ) (row : TradeRow) (rows : List TradeRow) → falling fall (row ∷ rows) ≡ row_fall fall row ++ falling (fall - row.amount) rows
falling_more fall row rows =
    step_then_rest (End row.number) (Cut row.number row.amount (row.amount - fall)) (eqb fall 0) (nat_le row.amount fall) (falling (fall - row.amount) rows)
    (λ e. let zero_fall : fall ≡ 0 = eqb-true fall 0 e in spent (fall - row.amount) rows (omega arith))
    (λ e. spent (fall - row.amount) rows (not_fits row.amount fall e))
  where
    not_fits : (amount fall : ℕ) → nat_le amount fall ≡ false → fall - amount ≡ 0
    not_fits amount fall e = grind (arith, nat_tests)

-- the trades for which a test holds fall one by one
module _ (P : TradeRow → Bool) (i : ℕ) (rows : List TradeRow) (row : TradeRow) (within : i < length rows) (is : row ≡ get_or rows i row) where
  abbrev rest : List TradeRow
  rest = drop (i + 1) rows

  next_rows : drop i rows ≡ row ∷ rest
  next_rows = drop-cons rows i row within ∙ ap (λ r. r ∷ drop (suc i) rows) (sym is) ∙ ap (λ k. row ∷ drop k rows) (sym (add-one i))

  next_passing : filter P (drop i rows) ≡ cond (P row) (row ∷ filter P rest) (filter P rest)
  next_passing = ap (filter P) next_rows

  -- one that passes takes its part of the fall
  pub fall_more : (fall left : ℕ) (start before after : List PlanRow) → P row ≡ true → start ≡ before ++ falling fall (filter P (drop i rows)) → after ≡ before ++ row_fall fall row → left ≡ fall - row.amount → start ≡ after ++ falling left (filter P rest)
  fall_more fall left start before after passes h e e' =
      h ∙ ap (λ xs. before ++ falling fall xs) (next_passing ∙ ap (λ t. cond t (row ∷ filter P rest) (filter P rest)) passes)
      ∙ ap (λ xs. before ++ xs) (falling_more fall row (filter P rest))
      ∙ sym (append_assoc before (row_fall fall row) (falling (fall - row.amount) (filter P rest)))
      ∙ ap (λ xs. xs ++ falling (fall - row.amount) (filter P rest)) (sym e)
      ∙ ap (λ n. after ++ falling n (filter P rest)) (sym e')

  -- any other stays
  pub fall_same : (fall : ℕ) (start before : List PlanRow) → P row ≡ false → start ≡ before ++ falling fall (filter P (drop i rows)) → start ≡ before ++ falling fall (filter P rest)
  fall_same fall start before fails h =
      h ∙ ap (λ xs. before ++ falling fall xs) (next_passing ∙ ap (λ t. cond t (row ∷ filter P rest) (filter P rest)) fails)

part_le : (b : Bool) (m : ℕ) → cond b m 0 ≤ m
part_le true m = omega arith
part_le false m = omega arith

-- an amount is at most the gross
pub amount_le : (rows : List Row) (i j : ℕ) → amount_in rows i j ≤ total rows
amount_le rows i j = sum_by-le-sum_by (pair_part i j) (λ (row : Row). row.amount) rows (λ row. part_le (eqb row.seller i && eqb row.buyer j) row.amount)

-- two filters are one
filter_next : (p : TradeRow → Bool) (t : Bool) (row : TradeRow) (xs ys : List TradeRow) → filter p xs ≡ ys → filter p (cond t (row ∷ xs) xs) ≡ cond (t && p row) (row ∷ ys) ys
filter_next p true row xs ys e = ap (λ zs. cond (p row) (row ∷ zs) zs) e
filter_next p false row xs ys e = e

pub filter_twice : (p q : TradeRow → Bool) (rows : List TradeRow) → filter p (filter q rows) ≡ filter (λ row. q row && p row) rows
filter_twice p q [] = refl
filter_twice p q (row ∷ rows) = filter_next p (q row) row (filter q rows) (filter (λ r. q r && p r) rows) (filter_twice p q rows)
