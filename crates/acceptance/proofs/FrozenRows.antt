-- A plan rests on the frozen trades alone, whatever their marks.
use Rattle.std.proofs.Common.{◌≡◌, ℕ, ◌-◌, ◌&&◌, not, Bool, true, false, cond, eqb, List, [], ◌∷◌, map, refl, sym, ap, ◌∙◌, arith, if◌then◌else◌}
use Rattle.std.specs.Prelude.{filter, nat_le, sum_by}
use Rattle.std.proofs.lemmas.List.Elements.{filter_agree}
use Rattle.std.proofs.lemmas.List.Sums.{sum_by-cons}
use Rattle.network_laws.specs.declared.rows.Row.{Row}
use Rattle.command_types.specs.declared.plan.PlanRow.{PlanRow}
use Rattle.command_types.specs.declared.plan.PlanRow.TheVariants.{End, Cut}
use Rattle.command_types.specs.declared.trade.TradeRow.{TradeRow}
use Rattle.command_types.specs.Trades.{total_where}
use Rattle.command_types.specs.Books.{listed_below, amount_row, network_by, is_between, is_held}
use Rattle.command_types.specs.Plans.{falling, free_rows}
use Rattle.acceptance.specs.Planning.{is_free_between}
use Rattle.acceptance.specs.Laws.{unmarked, frozen_of, PlanIsOfTheFrozen}
use Rattle.acceptance.proofs.PlanFacts.{filter_twice}
use Rattle.acceptance.proofs.Pieces.{listed_same}
use Rattle.acceptance.proofs.SamePlans.{plans_same}

falling_by : (fall : ℕ) (row : TradeRow) (xs ys : List PlanRow) → xs ≡ ys →
    cond (eqb fall 0) [] (cond (nat_le row.amount fall) (End row.number ∷ xs) (Cut row.number row.amount (row.amount - fall) ∷ [])) ≡ cond (eqb fall 0) [] (cond (nat_le row.amount fall) (End row.number ∷ ys) (Cut row.number row.amount (row.amount - fall) ∷ []))
falling_by fall row xs ys e = ap (λ zs. cond (eqb fall 0) [] (cond (nat_le row.amount fall) (End row.number ∷ zs) (Cut row.number row.amount (row.amount - fall) ∷ []))) e

falling_unmarked : (fall : ℕ) (rows : List TradeRow) → falling fall (map unmarked rows) ≡ falling fall rows
falling_unmarked fall [] = refl
falling_unmarked fall (row ∷ rows) =
    falling_by fall row (falling (fall - row.amount) (map unmarked rows)) (falling (fall - row.amount) rows) (falling_unmarked (fall - row.amount) rows)

filter_unmarked_by : (p : TradeRow → Bool) (t : Bool) (row : TradeRow) (xs ys : List TradeRow) → xs ≡ map unmarked ys → cond t (unmarked row ∷ xs) xs ≡ map unmarked (cond t (row ∷ ys) ys)
filter_unmarked_by p true row xs ys e = ap (λ zs. unmarked row ∷ zs) e
filter_unmarked_by p false row xs ys e = e

filter_unmarked : (p : TradeRow → Bool) → ((row : TradeRow) → p (unmarked row) ≡ p row) → (rows : List TradeRow) → filter p (map unmarked rows) ≡ map unmarked (filter p rows)
filter_unmarked p same [] = refl
filter_unmarked p same (row ∷ rows) =
    ap (λ t. cond t (unmarked row ∷ filter p (map unmarked rows)) (filter p (map unmarked rows))) (same row)
    ∙ filter_unmarked_by p (p row) row (filter p (map unmarked rows)) (filter p rows) (filter_unmarked p same rows)

frozen_twice : (b f h : Bool) → (f && (b && f && h)) ≡ (b && f && h)
frozen_twice b true h = refl
frozen_twice true false h = refl
frozen_twice false false h = refl

-- a pair's free trades fall as those of the frozen ones
free_falls : (fall : ℕ) (rows : List TradeRow) (product seller buyer : ℕ) → falling fall (free_rows rows product seller buyer) ≡ falling fall (filter (is_free_between product seller buyer) (frozen_of rows))
free_falls fall rows product seller buyer =
    let free = is_free_between product seller buyer in
    let frozen : List TradeRow = filter (λ row. row.frozen) rows in
    sym (falling_unmarked fall (filter free rows))
    ∙ ap (λ xs. falling fall (map unmarked xs)) (sym (filter_twice free (λ row. row.frozen) rows ∙ filter_agree (λ row. row.frozen && free row) free (λ row. frozen_twice (is_between product seller buyer row) row.frozen (not (is_held row))) rows))
    ∙ ap (falling fall) (sym (filter_unmarked free (λ row. refl) frozen))

falls_same : (rows other : List TradeRow) → frozen_of rows ≡ frozen_of other → (fall product seller buyer : ℕ) → falling fall (free_rows rows product seller buyer) ≡ falling fall (free_rows other product seller buyer)
falls_same rows other same fall product seller buyer =
    free_falls fall rows product seller buyer ∙ ap (λ xs. falling fall (filter (is_free_between product seller buyer) xs)) same ∙ sym (free_falls fall other product seller buyer)

sum_frozen_by : (g : TradeRow → ℕ) (row : TradeRow) (rows : List TradeRow) (f : Bool) → (f ≡ false → g row ≡ 0) → g (unmarked row) ≡ g row → sum_by g rows ≡ sum_by g (frozen_of rows) →
    sum_by g (row ∷ rows) ≡ sum_by g (map unmarked (cond f (row ∷ filter (λ r. r.frozen) rows) (filter (λ r. r.frozen) rows)))
sum_frozen_by g row rows true none unmarks rest = omega (arith, sum_by-cons g row rows, sum_by-cons g (unmarked row) (frozen_of rows), unmarks, rest)
sum_frozen_by g row rows false none unmarks rest = omega (arith, sum_by-cons g row rows, none refl, rest)

-- a sum over frozen trades
sum_frozen : (g : TradeRow → ℕ) → ((row : TradeRow) → row.frozen ≡ false → g row ≡ 0) → ((row : TradeRow) → g (unmarked row) ≡ g row) → (rows : List TradeRow) → sum_by g rows ≡ sum_by g (frozen_of rows)
sum_frozen g none unmarks [] = refl
sum_frozen g none unmarks (row ∷ rows) = sum_frozen_by g row rows row.frozen (none row) (unmarks row) (sum_frozen g none unmarks rows)

sum_same : (rows other : List TradeRow) → frozen_of rows ≡ frozen_of other → (g : TradeRow → ℕ) → ((row : TradeRow) → row.frozen ≡ false → g row ≡ 0) → ((row : TradeRow) → g (unmarked row) ≡ g row) → sum_by g rows ≡ sum_by g other
sum_same rows other same g none unmarks = sum_frozen g none unmarks rows ∙ ap (sum_by g) same ∙ sym (sum_frozen g none unmarks other)

frozen_off : (b f : Bool) (amount : ℕ) → f ≡ false → (if b && f then amount else 0) ≡ 0
frozen_off true f amount e = rw e refl
frozen_off false f amount e = refl

held_off : (b f h : Bool) (amount : ℕ) → f ≡ false → (if b && (f && h) then amount else 0) ≡ 0
held_off true f h amount e = rw e refl
held_off false f h amount e = refl

networks_same : (members : ℕ) (f g : ℕ → ℕ → ℕ) → ((i j : ℕ) → f i j ≡ g i j) → network_by members f ≡ network_by members g
networks_same members f g each =
    ap (λ (rows : List Row). record { members = members; rows = rows })
    (listed_same members (λ i. listed_below members (λ j. amount_row i j (f i j))) (λ i. listed_below members (λ j. amount_row i j (g i j))) (λ i.
    listed_same members (λ j. amount_row i j (f i j)) (λ j. amount_row i j (g i j)) (λ j. ap (amount_row i j) (each i j))))

pub plan_is_of_the_frozen : PlanIsOfTheFrozen
plan_is_of_the_frozen rows other same = record {
  plan = plans_same rows other (falls_same rows other same);
  frozen = λ members product.
      networks_same members (λ i j. total_where (λ row. is_between product i j row && row.frozen) rows) (λ i j. total_where (λ row. is_between product i j row && row.frozen) other) (λ i j.
      sum_same rows other same (λ row. if is_between product i j row && row.frozen then row.amount else 0) (λ row e. frozen_off (is_between product i j row) row.frozen row.amount e) (λ row. refl));
  held = λ members product.
      networks_same members (λ i j. total_where (λ row. is_between product i j row && (row.frozen && is_held row)) rows) (λ i j. total_where (λ row. is_between product i j row && (row.frozen && is_held row)) other) (λ i j.
      sum_same rows other same (λ row. if is_between product i j row && (row.frozen && is_held row) then row.amount else 0) (λ row e. held_off (is_between product i j row) row.frozen (is_held row) row.amount e) (λ row. refl));
}
