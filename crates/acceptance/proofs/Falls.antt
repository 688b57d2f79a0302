-- How the sum of a pair's trades falls.
use Rattle.std.proofs.Common.{◌≡◌, ◌≢◌, ℕ, zero, suc, ◌+◌, ◌-◌, ◌<◌, ◌≤◌, ◌++◌, Bool, true, false, cond, eqb, List, [], ◌∷◌, length, get_or, refl, sym, ap, ◌∙◌, arith, ⊎_elim}
use Rattle.std.specs.Prelude.{filter, nat_le, sum_by, All, if◌then◌else◌}
use Rattle.std.proofs.lemmas.Bool.{ne_eqb, eq-eqb, eqb-true, leb-true, cases_Bool, both_ways}
use Rattle.std.proofs.lemmas.List.Elements.{All-head, All-tail, All-filter, filter_passes, filter-append}
use Rattle.std.proofs.lemmas.List.{get_or_default}
use Rattle.std.proofs.lemmas.List.Sums.{sum_by-cons}
use Rattle.command_types.specs.declared.plan.PlanRow.{PlanRow}
use Rattle.command_types.specs.declared.plan.PlanRow.TheVariants.{End, Cut}
use Rattle.command_types.specs.declared.trade.TradeRow.{TradeRow}
use Rattle.command_types.specs.Trades.{total_where}
use Rattle.command_types.specs.Plans.{ended_row, cut_row, falling}
use Rattle.acceptance.specs.Renewals.{AreNumbered}
use Rattle.acceptance.specs.Planning.{row_fall}
use Rattle.acceptance.proofs.PlanFacts.{falling_more}
use Rattle.acceptance.proofs.RowSteps.{is_of, row_after, after_own, after_append, after_same}

-- no trade of the list has the number
abbrev pub HasNone : ℕ → List TradeRow → Type 0
HasNone t rows = All (λ row. row.number ≢ t) rows

pub numbered_at : (n : ℕ) (rows : List TradeRow) → AreNumbered n rows → (k : ℕ) (d : TradeRow) → k < length rows → (get_or rows k d).number ≡ n + k
numbered_at n [] are k d l = absurd (omega arith)
numbered_at n (row ∷ rows) (here, later) zero d l = omega (arith, here)
numbered_at n (row ∷ rows) (here, later) (suc k) d l = omega (arith, numbered_at (n + 1) rows later k d (omega arith))

pub none_below : (n t : ℕ) (rows : List TradeRow) → AreNumbered n rows → t < n → HasNone t rows
none_below n t rows are l k d lk e = omega (arith, numbered_at n rows are k d lk)

-- those that pass a test have not the number of one that does not
pub none_passing : (P : TradeRow → Bool) (n k : ℕ) (d : TradeRow) (rows : List TradeRow) → AreNumbered n rows → k < length rows → P (get_or rows k d) ≡ false → HasNone (n + k) (filter P rows)
none_passing P n k d rows are l fails j e lj same =
    All-filter P (λ row. P row ≡ true → row.number ≢ n + k) rows others j e lj (filter_passes P rows j e lj) same
  where
    others : All (λ row. P row ≡ true → row.number ≢ n + k) rows
    others i c li passes eq =
        let here : i ≡ k = omega (arith, numbered_at n rows are i c li) in
        both_ways (P (get_or rows k d)) fails (ap (λ m. P (get_or rows m d)) (sym here) ∙ ap P (get_or_default rows i d c li) ∙ passes)

row_fall_by : (row : TradeRow) (t fall : ℕ) (none fits : Bool) → eqb row.number t ≡ false → filter (is_of t) (cond none [] (cond fits (End row.number ∷ []) (Cut row.number row.amount (row.amount - fall) ∷ []))) ≡ []
row_fall_by row t fall true fits other = refl
row_fall_by row t fall false true other = ap (λ b. cond b (End row.number ∷ []) []) other
row_fall_by row t fall false false other = ap (λ b. cond b (Cut row.number row.amount (row.amount - fall) ∷ []) []) other

pub row_fall_other : (row : TradeRow) (t fall : ℕ) → row.number ≢ t → filter (is_of t) (row_fall fall row) ≡ []
row_fall_other row t fall ne = row_fall_by row t fall (eqb fall 0) (nat_le row.amount fall) (ne_eqb row.number t ne)

-- trades that fall without that of this number
pub falling_other : (t fall : ℕ) (rows : List TradeRow) → HasNone t rows → filter (is_of t) (falling fall rows) ≡ []
falling_other t fall [] none = refl
falling_other t fall (row ∷ rows) none =
    let here = All-head (λ (r : TradeRow). r.number ≢ t) row rows none in
    let later = All-tail (λ (r : TradeRow). r.number ≢ t) row rows none in
    ap (filter (is_of t)) (falling_more fall row rows) ∙ filter-append (is_of t) (row_fall fall row) (falling (fall - row.amount) rows)
    ∙ ap (λ xs. xs ++ filter (is_of t) (falling (fall - row.amount) rows)) (row_fall_other row t fall here) ∙ falling_other t (fall - row.amount) rows later

pub unnamed : (plan : List PlanRow) (row : TradeRow) (n : ℕ) → row.number ≡ n → filter (is_of n) plan ≡ [] → row_after plan row ≡ row
unnamed plan row n e none = after_own plan n row e ∙ ap (λ xs. row_after xs row) none

pub sum_same : {X : Type 0} (f g : X → ℕ) (xs : List X) → All (λ x. f x ≡ g x) xs → sum_by f xs ≡ sum_by g xs
sum_same f g [] all = refl
sum_same f g (x ∷ xs) all =
    omega (arith, sum_by-cons f x xs, sum_by-cons g x xs, All-head (λ y. f y ≡ g y) x xs all, sum_same f g xs (All-tail (λ y. f y ≡ g y) x xs all))

-- what a trade counts, where one that passes the test counts its amount until it ends
module _ (w : TradeRow → ℕ) (P : TradeRow → Bool) (Is : TradeRow → Type 0) (counts : (row : TradeRow) → Is row → P row ≡ true → w row ≡ row.amount) (ended : (row : TradeRow) → P row ≡ true → w (ended_row row) ≡ 0) (cut : (row : TradeRow) (amount : ℕ) → Is row → P row ≡ true → w (cut_row amount row) ≡ amount) where
  fallen_by : (row : TradeRow) (fall : ℕ) (none fits : Bool) → eqb fall 0 ≡ none → nat_le row.amount fall ≡ fits → Is row → P row ≡ true → w (row_after (cond none [] (cond fits (End row.number ∷ []) (Cut row.number row.amount (row.amount - fall) ∷ []))) row) ≡ row.amount - fall
  fallen_by row fall true fits e e' is passes = let zero_fall : fall ≡ 0 = eqb-true fall 0 e in omega (arith, counts row is passes)
  fallen_by row fall false true e e' is passes =
      let le : row.amount ≤ fall = leb-true row.amount fall e' in
      ap (λ b. w (cond b (ended_row row) row)) (eq-eqb row.number row.number refl) ∙ ended row passes ∙ (let z : 0 ≡ row.amount - fall = omega arith in z)
  fallen_by row fall false false e e' is passes =
      ap (λ b. w (cond b (cut_row (row.amount - fall) row) row)) (eq-eqb row.number row.number refl) ∙ cut row (row.amount - fall) is passes

  abbrev left_of : ℕ → List TradeRow → List TradeRow → ℕ
  left_of fall free rows = sum_by (λ row. w (row_after (falling fall free) row)) rows

  fall_passes : (n fall : ℕ) (row : TradeRow) (rows : List TradeRow) → row.number ≡ n → AreNumbered (n + 1) rows → Is row → P row ≡ true →
      left_of fall (filter P (row ∷ rows)) (row ∷ rows) ≡ (row.amount - fall) + left_of (fall - row.amount) (filter P rows) rows
  fall_passes n fall row rows here later is passes =
      let free = filter P rows in
      let head = row_fall fall row in
      let tail = falling (fall - row.amount) free in
      let counted : TradeRow → ℕ = λ r. w (row_after (head ++ tail) r) in
      let same : falling fall (filter P (row ∷ rows)) ≡ head ++ tail = ap (λ b. falling fall (cond b (row ∷ free) free)) passes ∙ falling_more fall row free in
      let none : HasNone n free = All-filter P (λ r. r.number ≢ n) rows (none_below (n + 1) n rows later (omega arith)) in
      let first : counted row ≡ row.amount - fall =
      ap w (after_append head tail row ∙ unnamed tail (row_after head row) n ((after_same head row).number ∙ here) (falling_other n (fall - row.amount) free none))
      ∙ fallen_by row fall (eqb fall 0) (nat_le row.amount fall) refl refl is passes in
      let others : sum_by counted rows ≡ left_of (fall - row.amount) free rows =
      sum_same counted (λ r. w (row_after tail r)) rows (λ k d l.
      let x = get_or rows k d in
      let ne : row.number ≢ x.number = omega (arith, numbered_at (n + 1) rows later k d l) in
      ap w (after_append head tail x ∙ ap (row_after tail) (unnamed head x x.number refl (row_fall_other row x.number fall ne)))) in
      ap (λ plan. sum_by (λ r. w (row_after plan r)) (row ∷ rows)) same ∙ sum_by-cons counted row rows ∙ ap (λ m. m + sum_by counted rows) first ∙ ap (λ m. (row.amount - fall) + m) others

  fall_fails : (n fall : ℕ) (row : TradeRow) (rows : List TradeRow) → row.number ≡ n → AreNumbered (n + 1) rows → P row ≡ false →
      left_of fall (filter P (row ∷ rows)) (row ∷ rows) ≡ w row + left_of fall (filter P rows) rows
  fall_fails n fall row rows here later fails =
      let free = filter P rows in
      let none : HasNone n free = All-filter P (λ r. r.number ≢ n) rows (none_below (n + 1) n rows later (omega arith)) in
      ap (λ b. left_of fall (cond b (row ∷ free) free) (row ∷ rows)) fails ∙ sum_by-cons (λ r. w (row_after (falling fall free) r)) row rows
      ∙ ap (λ r. w r + left_of fall free rows) (unnamed (falling fall free) row n here (falling_other n fall free none))

  pub falls_by : (n fall : ℕ) (rows : List TradeRow) → AreNumbered n rows → All Is rows → fall ≤ total_where P rows → left_of fall (filter P rows) rows + fall ≡ sum_by w rows
  falls_by n fall [] are all le = omega arith
  falls_by n fall (row ∷ rows) (here, later) all le =
      let part : TradeRow → ℕ = λ r. if P r then r.amount else 0 in
      let is = All-head Is row rows all in
      let rest = All-tail Is row rows all in
      ⊎_elim (λ (passes : P row ≡ true).
      let own : part row ≡ row.amount = ap (λ b. cond b row.amount 0) passes in
      omega (arith, sum_by-cons part row rows, sum_by-cons w row rows, counts row is passes, fall_passes n fall row rows here later is passes, falls_by (n + 1) (fall - row.amount) rows later rest (omega (arith, sum_by-cons part row rows))))
      (λ (fails : P row ≡ false).
      let own : part row ≡ 0 = ap (λ b. cond b row.amount 0) fails in
      omega (arith, sum_by-cons part row rows, sum_by-cons w row rows, fall_fails n fall row rows here later fails, falls_by (n + 1) fall rows later rest (omega (arith, sum_by-cons part row rows))))
      (cases_Bool (P row))
