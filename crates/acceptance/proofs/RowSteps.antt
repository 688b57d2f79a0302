-- What a plan does to each trade, and the trades that it makes.
use Rattle.std.proofs.Common.{◌≡◌, ℕ, zero, suc, ◌+◌, ◌-◌, ◌<◌, ◌≤◌, ◌==◌, ◌++◌, Bool, true, false, cond, eqb, List, [], ◌∷◌, length, map, slice_get, slice_set, Some, None, refl, sym, ap, ◌∙◌, subst, arith, inl, inr, ⊎_elim}
use Rattle.std.specs.Prelude.{◌⊎◌, filter, fold, nat_lt, All, if◌then◌else◌}
use Rattle.std.proofs.lemmas.Bool.{ne_eqb, eq-eqb, eqb-false, lt-ltb, cond_both}
use Rattle.std.proofs.lemmas.List.{append_assoc, append-nil, length-map, length-append, map-id}
use Rattle.std.proofs.lemmas.List.Sums.{fold-append}
use Rattle.std.proofs.lemmas.List.Elements.{All-head, All-tail}
use Rattle.command_types.specs.declared.plan.PlanRow.{PlanRow}
use Rattle.command_types.specs.declared.plan.PlanRow.TheVariants.{End, Cut, New}
use Rattle.command_types.specs.declared.trade.TradeRow.{TradeRow}
use Rattle.command_types.specs.declared.trade.TradeState.TheVariants.{Ended}
use Rattle.command_types.specs.Trades.{trade_numbered, with_row, changed_row, with_changed}
use Rattle.command_types.specs.Plans.{ended_row, cut_row, made_row, after_step, executed}
use Rattle.acceptance.specs.Renewals.{AreNumbered}

-- the step ends or cuts the trade with this number
abbrev pub is_of : ℕ → PlanRow → Bool
is_of number (End trade) = trade == number
is_of number (Cut trade from to) = trade == number
is_of number (New product seller buyer amount day) = false

abbrev changed_at : (TradeRow → TradeRow) → ℕ → TradeRow → TradeRow
changed_at change number row = if row.number == number then change row else row

-- the trade after one step
abbrev pub row_step : TradeRow → PlanRow → TradeRow
row_step row (End trade) = changed_at ended_row trade row
row_step row (Cut trade from to) = changed_at (cut_row to) trade row
row_step row (New product seller buyer amount day) = row

-- the trade after a plan
abbrev pub row_after : List PlanRow → TradeRow → TradeRow
row_after plan row = fold row_step row plan

-- the trades that a plan makes, numbered from n on
abbrev pub made_by : ℕ → List PlanRow → List TradeRow
made_by n [] = []
made_by n (End trade ∷ plan) = made_by n plan
made_by n (Cut trade from to ∷ plan) = made_by n plan
made_by n (New product seller buyer amount day ∷ plan) = made_row n product seller buyer amount day ∷ made_by (n + 1) plan

-- the step's trade, if it is of one, is among the first n
abbrev pub IsPlaced : ℕ → PlanRow → Type 0
IsPlaced n (End trade) = (1 ≤ trade) × (trade ≤ n)
IsPlaced n (Cut trade from to) = (1 ≤ trade) × (trade ≤ n)
IsPlaced n (New product seller buyer amount day) = Unit {0}

other_rows : (change : TradeRow → TradeRow) (n t : ℕ) (rows : List TradeRow) → AreNumbered n rows → t < n → map (changed_at change t) rows ≡ rows
other_rows change n t [] are l = refl
other_rows change n t (row ∷ rows) (here, later) l =
    let no : eqb row.number t ≡ false = ne_eqb row.number t (omega arith) in
    ap (λ b. cond b (change row) row ∷ map (changed_at change t) rows) no ∙ ap (λ xs. row ∷ xs) (other_rows change (n + 1) t rows later (omega arith))

-- a change at a place is a change of the trade with its number
set_placed : (change : TradeRow → TradeRow) (n k : ℕ) (rows made : List TradeRow) → AreNumbered n rows → k < length rows →
    (row : TradeRow) × (slice_get (rows ++ made) k ≡ Some row) × (slice_set (rows ++ made) k (change row) ≡ map (changed_at change (n + k)) rows ++ made)
set_placed change n k [] made are l = absurd (omega arith)
set_placed change n zero (row ∷ rows) made (here, later) l =
    let yes : eqb row.number (n + 0) ≡ true = eq-eqb row.number (n + 0) (omega arith) in
    (row, refl, ap (λ b. cond b (change row) row ∷ (rows ++ made)) (sym yes) ∙ ap (λ xs. changed_at change (n + 0) row ∷ (xs ++ made)) (sym (other_rows change (n + 1) (n + 0) rows later (omega arith))))
set_placed change n (suc k) (row ∷ rows) made (here, later) l =
    let rest = set_placed change (n + 1) k rows made later (omega arith) in
    let no : eqb row.number (n + suc k) ≡ false = ne_eqb row.number (n + suc k) (omega arith) in
    let e : n + 1 + k ≡ n + suc k = omega arith in
    (rest.0, rest.1, ap (λ xs. row ∷ xs) rest.2 ∙ ap (λ m. row ∷ (map (changed_at change m) rows ++ made)) e ∙ ap (λ b. cond b (change row) row ∷ (map (changed_at change (n + suc k)) rows ++ made)) (sym no))

changed_numbered : (change : TradeRow → TradeRow) (t : ℕ) (rows made : List TradeRow) → AreNumbered 1 rows → 1 ≤ t → t ≤ length rows → with_changed change (rows ++ made) t ≡ map (changed_at change t) rows ++ made
changed_numbered change t rows made are least most =
    let placed = set_placed change 1 (t - 1) rows made are (omega arith) in
    let row = placed.0 in
    let above : nat_lt 0 t ≡ true = lt-ltb 0 t (omega arith) in
    let found : trade_numbered (rows ++ made) t ≡ Some row = ap (λ (b : Bool). if b then slice_get (rows ++ made) (t - 1) else None) above ∙ placed.1 in
    let e : 1 + (t - 1) ≡ t = omega arith in
    ap (λ o. with_row (rows ++ made) t (changed_row change o)) found ∙ placed.2 ∙ ap (λ m. map (changed_at change m) rows ++ made) e

map_twice : (f g : TradeRow → TradeRow) (rows : List TradeRow) → map g (map f rows) ≡ map (λ row. g (f row)) rows
map_twice f g [] = refl
map_twice f g (row ∷ rows) = ap (λ xs. g (f row) ∷ xs) (map_twice f g rows)

pub numbered_map : (g : TradeRow → TradeRow) → ((row : TradeRow) → (g row).number ≡ row.number) → (n : ℕ) (rows : List TradeRow) → AreNumbered n rows → AreNumbered n (map g rows)
numbered_map g keeps n [] are = tt
numbered_map g keeps n (row ∷ rows) (here, later) = (keeps row ∙ here, numbered_map g keeps (n + 1) rows later)

-- the terms of a trade that no step changes
pub record IsSameTrade (old new : TradeRow) : Type 0 where
  pub number : new.number ≡ old.number
  pub product : new.product ≡ old.product
  pub seller : new.seller ≡ old.seller
  pub buyer : new.buyer ≡ old.buyer
  pub frozen : new.frozen ≡ old.frozen
  pub state : (new.state ≡ old.state) ⊎ (new.state ≡ Ended)

same_itself : (row : TradeRow) → IsSameTrade row row
same_itself row = record { number = refl; product = refl; seller = refl; buyer = refl; frozen = refl; state = inl refl }

step_same : (row : TradeRow) (step : PlanRow) → IsSameTrade row (row_step row step)
step_same row (End trade) =
    cond_both (eqb row.number trade) (ended_row row) row (IsSameTrade row) (λ _. record { number = refl; product = refl; seller = refl; buyer = refl; frozen = refl; state = inr refl }) (λ _. same_itself row)
step_same row (Cut trade from to) =
    cond_both (eqb row.number trade) (cut_row to row) row (IsSameTrade row) (λ _. record { number = refl; product = refl; seller = refl; buyer = refl; frozen = refl; state = inl refl }) (λ _. same_itself row)
step_same row (New product seller buyer amount day) = same_itself row

same_twice : (a b c : TradeRow) → IsSameTrade a b → IsSameTrade b c → IsSameTrade a c
same_twice a b c h h' = record {
  number = h'.number ∙ h.number;
  product = h'.product ∙ h.product;
  seller = h'.seller ∙ h.seller;
  buyer = h'.buyer ∙ h.buyer;
  frozen = h'.frozen ∙ h.frozen;
  state = ⊎_elim (λ (e : c.state ≡ b.state). ⊎_elim (λ (e' : b.state ≡ a.state). inl (e ∙ e')) (λ (e' : b.state ≡ Ended). inr (e ∙ e')) h.state) (λ (e : c.state ≡ Ended). inr e) h'.state;
}

pub after_same : (plan : List PlanRow) (row : TradeRow) → IsSameTrade row (row_after plan row)
after_same [] row = same_itself row
after_same (step ∷ plan) row = same_twice row (row_step row step) (row_after plan (row_step row step)) (step_same row step) (after_same plan (row_step row step))

step_placed : (step : PlanRow) (rows made : List TradeRow) → AreNumbered 1 rows → IsPlaced (length rows) step → after_step (rows ++ made) step ≡ map (λ row. row_step row step) rows ++ (made ++ made_by (length (rows ++ made) + 1) (step ∷ []))
step_placed (End trade) rows made are (least, most) = changed_numbered ended_row trade rows made are least most ∙ ap (λ xs. map (changed_at ended_row trade) rows ++ xs) (sym (append-nil made))
step_placed (Cut trade from to) rows made are (least, most) = changed_numbered (cut_row to) trade rows made are least most ∙ ap (λ xs. map (changed_at (cut_row to) trade) rows ++ xs) (sym (append-nil made))
step_placed (New product seller buyer amount day) rows made are placed =
    append_assoc rows made (made_row (length (rows ++ made) + 1) product seller buyer amount day ∷ []) ∙ ap (λ xs. xs ++ (made ++ made_row (length (rows ++ made) + 1) product seller buyer amount day ∷ [])) (sym (map-id rows))

made_more : (n m : ℕ) (step : PlanRow) (plan : List PlanRow) → m ≡ n + length (made_by n (step ∷ [])) → made_by n (step ∷ plan) ≡ made_by n (step ∷ []) ++ made_by m plan
made_more n m (End trade) plan e = let same : n ≡ m = omega arith in ap (λ k. made_by k plan) same
made_more n m (Cut trade from to) plan e = let same : n ≡ m = omega arith in ap (λ k. made_by k plan) same
made_more n m (New product seller buyer amount day) plan e =
    let same : n + 1 ≡ m = omega arith in ap (λ k. made_row n product seller buyer amount day ∷ made_by k plan) same

-- each trade is changed by itself, and the made ones stand behind them
pub executed_behind : (plan : List PlanRow) (rows made : List TradeRow) → AreNumbered 1 rows → All (IsPlaced (length rows)) plan → executed plan (rows ++ made) ≡ map (row_after plan) rows ++ (made ++ made_by (length (rows ++ made) + 1) plan)
executed_behind [] rows made are placed = ap (λ xs. xs ++ made) (sym (map-id rows)) ∙ ap (λ xs. map (λ (row : TradeRow). row) rows ++ xs) (sym (append-nil made))
executed_behind (step ∷ plan) rows made are placed =
    let g : TradeRow → TradeRow = λ row. row_step row step in
    let n = length (rows ++ made) + 1 in
    let more = made_by n (step ∷ []) in
    let here = All-head (IsPlaced (length rows)) step plan placed in
    let later = subst (λ k. All (IsPlaced k) plan) (sym (length-map rows g)) (All-tail (IsPlaced (length rows)) step plan placed) in
    let rest = executed_behind plan (map g rows) (made ++ more) (numbered_map g (λ row. (step_same row step).number) 1 rows are) later in
    let m = length (map g rows ++ (made ++ more)) + 1 in
    let e : m ≡ n + length more = omega (arith, length-append (map g rows) (made ++ more), length-append made more, length-append rows made, length-map rows g) in
    ap (executed plan) (step_placed step rows made are here) ∙ rest
    ∙ ap (λ xs. xs ++ ((made ++ more) ++ made_by m plan)) (map_twice g (row_after plan) rows)
    ∙ ap (λ xs. map (λ row. row_after plan (g row)) rows ++ xs) (append_assoc made more (made_by m plan) ∙ ap (λ xs. made ++ xs) (sym (made_more n m step plan e)))

-- the steps of one trade's number are those that change it
step_other : (row : TradeRow) (n : ℕ) (step : PlanRow) → row.number ≡ n → is_of n step ≡ false → row_step row step ≡ row
step_other row n (End trade) e other = ap (λ b. cond b (ended_row row) row) (ne_eqb row.number trade (λ q. eqb-false trade n other (sym q ∙ e)))
step_other row n (Cut trade from to) e other = ap (λ b. cond b (cut_row to row) row) (ne_eqb row.number trade (λ q. eqb-false trade n other (sym q ∙ e)))
step_other row n (New product seller buyer amount day) e other = refl

own_by : (step : PlanRow) (plan own : List PlanRow) (n : ℕ) (row : TradeRow) (b : Bool) → is_of n step ≡ b → row.number ≡ n → row_after plan (row_step row step) ≡ row_after own (row_step row step) → row_after plan row ≡ row_after own row →
    row_after (step ∷ plan) row ≡ row_after (cond (is_of n step) (step ∷ own) own) row
own_by step plan own n row true is e changed same = changed ∙ ap (λ t. row_after (cond t (step ∷ own) own) row) (sym is)
own_by step plan own n row false is e changed same = ap (row_after plan) (step_other row n step e is) ∙ same ∙ ap (λ t. row_after (cond t (step ∷ own) own) row) (sym is)

pub after_own : (plan : List PlanRow) (n : ℕ) (row : TradeRow) → row.number ≡ n → row_after plan row ≡ row_after (filter (is_of n) plan) row
after_own [] n row e = refl
after_own (step ∷ plan) n row e =
    own_by step plan (filter (is_of n) plan) n row (is_of n step) refl e (after_own plan n (row_step row step) ((step_same row step).number ∙ e)) (after_own plan n row e)

pub after_append : (xs ys : List PlanRow) (row : TradeRow) → row_after (xs ++ ys) row ≡ row_after ys (row_after xs row)
after_append xs ys row = fold-append row_step row xs ys
