-- What the trades come to on the way through a plan: at most what they came to before and afterwards together.
use Rattle.std.proofs.Common.{◌≡◌, ℕ, zero, suc, ◌+◌, ◌-◌, ◌*◌, ◌≤◌, ◌==◌, ◌&&◌, Bool, true, false, List, [], ◌∷◌, ◌++◌, length, take, slice_get, slice_set, IsTrue, Option, Some, None, if◌then◌else◌, arith, refl}
use Rattle.std.specs.Prelude.{All}
use Rattle.std.proofs.lemmas.Bool.{false≢true}
use Rattle.std.proofs.lemmas.List.Elements.{All-head, All-tail}
use Rattle.std.proofs.lemmas.List.Sums.{sum_by-cons, sum_by_push}
use Rattle.command_types.specs.declared.plan.PlanRow.{PlanRow}
use Rattle.command_types.specs.declared.plan.PlanRow.TheVariants.{End, Cut, New}
use Rattle.command_types.specs.declared.trade.TradeRow.{TradeRow}
use Rattle.command_types.specs.Execution.{IsLiveTrade, MayFall, IsStep}
use Rattle.command_types.specs.Plans.{ended_row, cut_row, made_row, after_step, executed}
use Rattle.command_types.specs.Trades.{counts, gross_of, trade_numbered, with_row, changed_row}
use Rattle.product_book.specs.Book.{gross_limit}
use Rattle.product_book.proofs.BookFacts.{gross_part, placed}

-- a trade's later row, in which it counts for no more
record IsUnder (old now : TradeRow) : Type 0 where
  product : now.product ≡ old.product
  amount : now.amount ≤ old.amount
  state : IsTrue (counts now.state) → IsTrue (counts old.state)

-- the first of the later rows are those of these trades
abbrev AreUnder : List TradeRow → List TradeRow → Type 0
AreUnder [] later = Unit {0}
AreUnder (row ∷ rows) [] = ⊥
AreUnder (row ∷ rows) (now ∷ later) = IsUnder row now × AreUnder rows later

-- and the others are new
abbrev new_rows : List TradeRow → List TradeRow → List TradeRow
new_rows [] later = later
new_rows (row ∷ rows) [] = []
new_rows (row ∷ rows) (now ∷ later) = new_rows rows later

less_part : (p a b : Bool) (small large : ℕ) → (IsTrue a → IsTrue b) → small ≤ large → (if p && a then small else 0) ≤ (if p && b then large else 0)
less_part false a b small large h le = omega arith
less_part true false b small large h le = omega arith
less_part true true true small large h le = le
less_part true true false small large h le = absurd (false≢true (h refl))

under_part : (product : ℕ) (old now : TradeRow) → IsUnder old now → gross_part product now ≤ gross_part product old
under_part product old now is = rw is.product (less_part (old.product == product) (counts now.state) (counts old.state) now.amount old.amount is.state is.amount)

-- later rows come to no more than the trades and the new ones
gross_under : (product : ℕ) (rows later : List TradeRow) → AreUnder rows later → gross_of product later ≤ gross_of product rows + gross_of product (new_rows rows later)
gross_under product [] later is = omega arith
gross_under product (row ∷ rows) [] is = absurd is
gross_under product (row ∷ rows) (now ∷ later) (first, is) =
    omega (arith, sum_by-cons (gross_part product) row rows, sum_by-cons (gross_part product) now later, under_part product row now first, gross_under product rows later is)

-- and the new ones alone to no more than all
gross_new : (product : ℕ) (rows later : List TradeRow) → gross_of product (new_rows rows later) ≤ gross_of product later
gross_new product [] later = omega arith
gross_new product (row ∷ rows) [] = omega arith
gross_new product (row ∷ rows) (now ∷ later) = omega (arith, sum_by-cons (gross_part product) now later, gross_new product rows later)

under_self : (rows : List TradeRow) → AreUnder rows rows
under_self [] = tt
under_self (row ∷ rows) = (record { product = refl; amount = omega arith; state = λ h. h }, under_self rows)

under_push : (rows later : List TradeRow) (row : TradeRow) → AreUnder rows later → AreUnder rows (later ++ row ∷ [])
under_push [] later row is = tt
under_push (first ∷ rows) [] row is = absurd is
under_push (first ∷ rows) (now ∷ later) row (here, is) = (here, under_push rows later row is)

new_push : (rows later : List TradeRow) (row : TradeRow) → AreUnder rows later → new_rows rows (later ++ row ∷ []) ≡ new_rows rows later ++ row ∷ []
new_push [] later row is = refl
new_push (first ∷ rows) [] row is = absurd is
new_push (first ∷ rows) (now ∷ later) row (here, is) = new_push rows later row is

-- a trade that there was, changed again
under_set : (rows later : List TradeRow) (i : ℕ) (old now new : TradeRow) → AreUnder rows later → slice_get rows i ≡ Some old → slice_get later i ≡ Some now → (IsUnder old now → IsUnder old new) → AreUnder rows (slice_set later i new)
under_set [] later i old now new is e e' f = cc
under_set (first ∷ rows) [] i old now new is e e' f = absurd is
under_set (first ∷ rows) (here ∷ later) zero old now new (one, is) e e' f =
    let same : first ≡ old = cc in
    let same' : here ≡ now = cc in
    (rw same (f (rw (← same, ← same') one)), is)
under_set (first ∷ rows) (here ∷ later) (suc i) old now new (one, is) e e' f = (one, under_set rows later i old now new is e e' f)

new_set : (rows later : List TradeRow) (i : ℕ) (old new : TradeRow) → slice_get rows i ≡ Some old → new_rows rows (slice_set later i new) ≡ new_rows rows later
new_set [] later i old new e = cc
new_set (first ∷ rows) [] i old new e = refl
new_set (first ∷ rows) (here ∷ later) zero old new e = refl
new_set (first ∷ rows) (here ∷ later) (suc i) old new e = new_set rows later i old new e

-- one step: each trade that there was counts for no more, and what is new stays
record GoesOn (rows later after : List TradeRow) : Type 0 where
  under : AreUnder rows after
  stays : (product : ℕ) → gross_of product (new_rows rows later) ≤ gross_of product (new_rows rows after)

changed_on : (change : TradeRow → TradeRow) (rows later : List TradeRow) (number : ℕ) (old : TradeRow) (o : Option TradeRow) → AreUnder rows later → trade_numbered rows number ≡ Some old → trade_numbered later number ≡ o
    → ((now : TradeRow) → IsUnder old now → IsUnder old (change now)) → GoesOn rows later (with_row later number (changed_row change o))
changed_on change rows later number old None is e e' f = record { under = is; stays = λ product. omega arith }
changed_on change rows later number old (Some now) is e e' f =
    let at = placed rows number old e in
    let there = placed later number now e' in
    record {
      under = under_set rows later (number - 1) old now (change now) is at.2 there.2 (f now);
      stays = λ product. rw (new_set rows later (number - 1) old (change now) at.2) (omega arith);
    }

end_on : (rows later : List TradeRow) (trade : ℕ) (o : Option TradeRow) → trade_numbered rows trade ≡ o → IsLiveTrade o → AreUnder rows later → GoesOn rows later (after_step later (End trade))
end_on rows later trade None e h is = absurd h
end_on rows later trade (Some old) e h is =
    changed_on ended_row rows later trade old (trade_numbered later trade) is e refl (λ now under. record { product = under.product; amount = under.amount; state = λ h. absurd (false≢true h) })

cut_on : (rows later : List TradeRow) (trade from to : ℕ) (o : Option TradeRow) → trade_numbered rows trade ≡ o → MayFall from to o → AreUnder rows later → GoesOn rows later (after_step later (Cut trade from to))
cut_on rows later trade from to None e h is = absurd h
cut_on rows later trade from to (Some old) e h is =
    changed_on (cut_row to) rows later trade old (trade_numbered later trade) is e refl (λ now under. record { product = under.product; amount = omega (arith, h.1, h.3); state = under.state })

goes_on : (members products : ℕ) (rows later : List TradeRow) (step : PlanRow) → IsStep members products rows step → AreUnder rows later → GoesOn rows later (after_step later step)
goes_on members products rows later (End trade) h is = end_on rows later trade (trade_numbered rows trade) refl h is
goes_on members products rows later (Cut trade from to) h is = cut_on rows later trade from to (trade_numbered rows trade) refl h is
goes_on members products rows later (New product seller buyer amount day) h is =
    let row = made_row (length later + 1) product seller buyer amount day in
    record { under = under_push rows later row is; stays = λ p. rw (new_push rows later row is) (omega (arith, sum_by_push (gross_part p) (new_rows rows later) row)) }

-- a whole plan
new_stays : (members products : ℕ) (rows later : List TradeRow) (plan : List PlanRow) → All (IsStep members products rows) plan → AreUnder rows later → (product : ℕ) → gross_of product (new_rows rows later) ≤ gross_of product (executed plan later)
new_stays members products rows later [] all is product = gross_new product rows later
new_stays members products rows later (step ∷ plan) all is product =
    let on = goes_on members products rows later step (All-head (IsStep members products rows) step plan all) is in
    omega (arith, on.stays product, new_stays members products rows (after_step later step) plan (All-tail (IsStep members products rows) step plan all) on.under product)

passing : (members products : ℕ) (rows later : List TradeRow) (plan : List PlanRow) (steps product : ℕ) → All (IsStep members products rows) plan → AreUnder rows later
    → gross_of product (executed (take steps plan) later) ≤ gross_of product rows + gross_of product (executed plan later)
passing members products rows later plan zero product all is = omega (arith, gross_under product rows later is, new_stays members products rows later plan all is product)
passing members products rows later [] (suc steps) product all is = omega (arith, gross_under product rows later is, gross_new product rows later)
passing members products rows later (step ∷ plan) (suc steps) product all is =
    let on = goes_on members products rows later step (All-head (IsStep members products rows) step plan all) is in
    passing members products rows (after_step later step) plan steps product (All-tail (IsStep members products rows) step plan all) on.under

-- where the trades are within the limit before and afterwards, they are within twice the limit on the way
pub passes : (members products : ℕ) (rows : List TradeRow) (plan : List PlanRow) → All (IsStep members products rows) plan → ((product : ℕ) → gross_of product rows ≤ gross_limit) → ((product : ℕ) → gross_of product (executed plan rows) ≤ gross_limit)
    → (steps product : ℕ) → gross_of product (executed (take steps plan) rows) ≤ 2 * gross_limit
passes members products rows plan all before after steps product = omega (arith, passing members products rows rows plan steps product all (under_self rows), before product, after product)
