-- The opening of a cycle, found by looking back, is the one FREEZE with its number.
use Rattle.std.proofs.Common.{◌≡◌, ℕ, ◌+◌, ◌≤◌, Bool, true, false, ◌==◌, List, [], ◌∷◌, ◌++◌, Option, Some, refl, sym, ap, ◌∙◌, subst, arith, append_assoc, eq-eqb, eqb-true, ne_eqb}
use Rattle.units_core.specs.Day.{DayParts}
use Rattle.command_types.specs.declared.ask.What.{What}
use Rattle.command_types.specs.declared.ask.What.TheVariants.{Freeze}
use Rattle.command_types.specs.declared.trade.TradeRow.{TradeRow}
use Rattle.trade_history.specs.Moments.{Moment, cycle_after, cycle_at}
use Rattle.trade_history.specs.Executes.{Opening, OpensCycle}
use Rattle.trade_history.specs.Search.{opening_by, opening_of}

grows : (what : What) (n : ℕ) → n ≤ cycle_after what n
grows (Freeze day) n = omega arith
grows what n = omega arith

cycle_at-grows : (number : ℕ) (later before : List Moment) → cycle_at number before ≤ cycle_at number (later ++ before)
cycle_at-grows number [] before = omega arith
cycle_at-grows number (moment ∷ later) before =
    (let rest = cycle_at-grows number later before in let here = grows moment.ask.what (cycle_at number (later ++ before)) in omega arith)

-- a command after a cycle's opening opens no cycle with its number
passed_over : (what : What) (n cycle : ℕ) (rows : List TradeRow) (before : Option Opening) → cycle ≤ n → opening_by what (cycle_after what n == cycle) rows before ≡ before
passed_over (Freeze day) n cycle rows before le = ap (λ b. opening_by (Freeze day) b rows before) (ne_eqb (1 + n) cycle (λ e. omega arith))
passed_over what n cycle rows before le = refl

opened_here : (what : What) (day : DayParts) (b : Bool) (rows : List TradeRow) (before : Option Opening) → what ≡ Freeze day → b ≡ true → opening_by what b rows before ≡ Some (record { day = day; rows = rows })
opened_here what day b rows before is wanted = ap (λ w. opening_by w b rows before) is ∙ ap (λ t. opening_by (Freeze day) t rows before) wanted

found-by : (number cycle : ℕ) (opening : Opening) (frozen : Moment) (before later : List Moment) → frozen.ask.what ≡ Freeze opening.day → opening.rows ≡ frozen.rows → cycle_at number (frozen ∷ before) ≡ cycle →
    opening_of number cycle (later ++ frozen ∷ before) ≡ Some opening
found-by number cycle opening frozen before [] freeze rows counted =
    opened_here frozen.ask.what opening.day (cycle_at number (frozen ∷ before) == cycle) frozen.rows (opening_of number cycle before) freeze (eq-eqb (cycle_at number (frozen ∷ before)) cycle counted)
    ∙ ap (λ rs. Some (record { day = opening.day; rows = rs })) (sym rows)
found-by number cycle opening frozen before (moment ∷ later) freeze rows counted =
    let le = cycle_at-grows number later (frozen ∷ before) in
    let past : cycle ≤ cycle_at number (later ++ frozen ∷ before) = omega arith in
    passed_over moment.ask.what (cycle_at number (later ++ frozen ∷ before)) cycle moment.rows (opening_of number cycle (later ++ frozen ∷ before)) past
    ∙ found-by number cycle opening frozen before later freeze rows counted

pub opens-found : (number cycle : ℕ) (moments : List Moment) (opening : Opening) → OpensCycle number cycle moments opening → opening_of number cycle moments ≡ Some opening
opens-found number cycle moments opening o =
    ap (opening_of number cycle) o.split ∙ found-by number cycle opening o.frozen o.before o.later o.freeze o.rows o.counted

-- an opening is one of a longer list too
pub opens-longer : (number cycle : ℕ) (front moments : List Moment) (opening : Opening) → OpensCycle number cycle moments opening → OpensCycle number cycle (front ++ moments) opening
opens-longer number cycle front moments opening o = record {
  later = front ++ o.later;
  frozen = o.frozen;
  before = o.before;
  split = ap (λ ms. front ++ ms) o.split ∙ sym (append_assoc front o.later (o.frozen ∷ o.before));
  freeze = o.freeze;
  rows = o.rows;
  counted = o.counted;
}

some_same : (a b : Opening) → Some a ≡ Some b → a ≡ b
some_same a b e = cc

-- what is found opens the cycle
opens_by : (number cycle : ℕ) (what : What) (by : Option (List ℕ)) (time : ℕ) (rows : List TradeRow) (before : List Moment) (opening : Opening) (b : Bool) → (cycle_after what (cycle_at number before) == cycle) ≡ b →
    ((o : Opening) → opening_of number cycle before ≡ Some o → OpensCycle number cycle before o) → opening_by what b rows (opening_of number cycle before) ≡ Some opening →
    OpensCycle number cycle (record { ask = record { by = by; what = what; moment = time }; rows = rows } ∷ before) opening
opens_by number cycle (Freeze day) by time rows before opening true is rest found =
    let e = some_same (record { day = day; rows = rows }) opening found in
    subst (λ o. OpensCycle number cycle (record { ask = record { by = by; what = Freeze day; moment = time }; rows = rows } ∷ before) o) e
    (record {
      later = [];
      frozen = record { ask = record { by = by; what = Freeze day; moment = time }; rows = rows };
      before = before;
      split = refl;
      freeze = refl;
      rows = refl;
      counted = eqb-true (1 + cycle_at number before) cycle is;
    })
opens_by number cycle (Freeze day) by time rows before opening false is rest found =
    opens-longer number cycle (record { ask = record { by = by; what = Freeze day; moment = time }; rows = rows } ∷ []) before opening (rest opening found)
opens_by number cycle what by time rows before opening b is rest found =
    opens-longer number cycle (record { ask = record { by = by; what = what; moment = time }; rows = rows } ∷ []) before opening (rest opening found)

pub found-opens : (number cycle : ℕ) (moments : List Moment) (opening : Opening) → opening_of number cycle moments ≡ Some opening → OpensCycle number cycle moments opening
found-opens number cycle [] opening found = cc
found-opens number cycle (moment ∷ moments) opening found =
    opens_by number cycle moment.ask.what moment.ask.by moment.ask.moment moment.rows moments opening (cycle_at number (moment ∷ moments) == cycle) refl (found-opens number cycle moments) found
