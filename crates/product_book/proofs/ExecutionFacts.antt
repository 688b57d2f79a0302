-- The execution of a plan: each step can run where its turn comes, and the book keeps what each book keeps.
use Rattle.std.proofs.Common.{◌≡◌, ℕ, zero, suc, ◌+◌, ◌-◌, ◌≤◌, ◌<◌, ◌==◌, ◌&&◌, nat_lt, Bool, true, false, List, [], ◌∷◌, length, get_or, take, slice_get, is_some, IsTrue, Option, Some, None, if◌then◌else◌, arith, refl, ap, sym, subst, ◌∙◌}
use Rattle.std.specs.Prelude.{All}
use Rattle.std.proofs.lemmas.Bool.Decides.{nat_tests}
use Rattle.std.proofs.lemmas.List.{length-set, length-append}
use Rattle.std.proofs.lemmas.List.Elements.{All-head, All-tail, All-weaker}
use Rattle.std.proofs.lemmas.Option.{get_or_from_slice_get}
use Rattle.std.proofs.lemmas.List.Sums.{fold_more, length-filter, sum_by_more, sum_by-take-drop, get_or-le-sum_by}
use Rattle.command_types.specs.declared.plan.PlanRow.{PlanRow}
use Rattle.command_types.specs.declared.plan.PlanRow.TheVariants.{End, Cut, New}
use Rattle.command_types.specs.declared.trade.TradeRow.{TradeRow}
use Rattle.command_types.specs.declared.trade.TradeState.{TradeState}
use Rattle.command_types.specs.declared.trade.TradeState.TheVariants.{Alleged, Live, Ended}
use Rattle.command_types.specs.Trades.{counts, is_live, gross_of, submitted_count, trade_numbered, with_row, changed_row}
use Rattle.command_types.specs.Plans.{ended_row, cut_row, made_row, after_step, executed, count_of, is_new}
use Rattle.product_book.specs.Book.{IsTrade, AreTrades, IsBook, gross_limit}
use Rattle.command_types.specs.Execution.{IsLiveTrade, MayFall, IsStep, IsExecutable}
use Rattle.product_book.specs.Execution.{CanRun, IsMade, IsPassing, added_by}
use Rattle.product_book.proofs.BookFacts.{gross_part, placed, trades_push, trades_set, trades_at, submitted_by_nobody, submitted_set}
use Rattle.product_book.proofs.PlaceFacts.{there_by, within_by}

-- a change of one trade leaves their number
length_with : (rows : List TradeRow) (number : ℕ) (o : Option TradeRow) → length (with_row rows number o) ≡ length rows
length_with rows number None = refl
length_with rows number (Some row) = length-set rows (number - 1) row

length_after : (rows : List TradeRow) (step : PlanRow) → length (after_step rows step) ≡ length rows + added_by step
length_after rows (End trade) = omega (arith, length_with rows trade (changed_row ended_row (trade_numbered rows trade)))
length_after rows (Cut trade from to) = omega (arith, length_with rows trade (changed_row (cut_row to) (trade_numbered rows trade)))
length_after rows (New product seller buyer amount day) = length-append rows (made_row (length rows + 1) product seller buyer amount day ∷ [])

-- a plan makes no trade fewer
longer : (plan : List PlanRow) (rows : List TradeRow) → length rows ≤ length (executed plan rows)
longer [] rows = omega arith
longer (step ∷ plan) rows = omega (arith, length_after rows step, longer plan (after_step rows step))

there : (rows : List TradeRow) (i : ℕ) → i < length rows → IsTrue (is_some (slice_get rows i))
there [] i l = absurd (omega arith)
there (row ∷ rows) zero l = refl
there (row ∷ rows) (suc i) l = there rows i (omega arith)

numbered_there : (t : Bool) (o : Option TradeRow) → t ≡ true → IsTrue (is_some o) → IsTrue (is_some (if t then o else None))
numbered_there true o e h = h
numbered_there false o e h = cc

-- a trade that is there is there among more trades
still_there : (rows later : List TradeRow) (number : ℕ) → length rows ≤ length later → IsTrue (is_some (trade_numbered rows number)) → IsTrue (is_some (trade_numbered later number))
still_there rows later number le h =
    let parts = there_by (nat_lt 0 number) (slice_get rows (number - 1)) h in
    let within = within_by rows (number - 1) (slice_get rows (number - 1)) refl parts.1 in
    numbered_there (nat_lt 0 number) (slice_get later (number - 1)) parts.0 (there later (number - 1) (omega arith))

still_runs : (rows later : List TradeRow) (step : PlanRow) → length rows ≤ length later → CanRun rows step → CanRun later step
still_runs rows later (End trade) le h = still_there rows later trade le h
still_runs rows later (Cut trade from to) le h = (still_there rows later trade le h.0, h.1, h.2)
still_runs rows later (New product seller buyer amount day) le h = tt

-- a step of the walk can run where its turn comes
pub runs_at : (rows : List TradeRow) (plan : List PlanRow) (i : ℕ) (step : PlanRow) → i < length plan → step ≡ get_or plan i step → All (CanRun rows) plan → CanRun (executed (take i plan) rows) step
runs_at rows plan i step l is all = still_runs rows (executed (take i plan) rows) step (longer (take i plan) rows) (subst (CanRun rows) (sym is) (all i step l))

-- the rows after one more step
pub executed_more : (rows : List TradeRow) (plan : List PlanRow) (i : ℕ) (step : PlanRow) → i < length plan → step ≡ get_or plan i step → after_step (executed (take i plan) rows) step ≡ executed (take (i + 1) plan) rows
executed_more rows plan i step l is = ap (after_step (executed (take i plan) rows)) is ∙ sym (fold_more after_step rows plan i step l)

-- how many trades one more step adds
pub added_more : (plan : List PlanRow) (i : ℕ) (step : PlanRow) → i < length plan → step ≡ get_or plan i step → count_of is_new (take (i + 1) plan) ≡ count_of is_new (take i plan) + added_by step
added_more plan i step l is =
    let more = sum_by_more added_by plan i step l in
    let same : added_by (get_or plan i step) ≡ added_by step = ap added_by (sym is) in
    omega (arith, more, same, length-filter is_new (take i plan), length-filter is_new (take (i + 1) plan))

-- and that there is room for it
pub added_le : (plan : List PlanRow) (i : ℕ) (step : PlanRow) → i < length plan → step ≡ get_or plan i step → count_of is_new (take i plan) + added_by step ≤ count_of is_new plan
added_le plan i step l is =
    omega (arith, added_more plan i step l is, length-filter is_new (take (i + 1) plan), length-filter is_new plan, sum_by-take-drop added_by plan (i + 1))

-- what the rows are on the way after a step that changes a trade
pub passing_changed : (change : TradeRow → TradeRow) (rows : List TradeRow) (number : ℕ) (row : TradeRow) → trade_numbered rows number ≡ Some row → IsPassing (with_row rows number (changed_row change (trade_numbered rows number)))
    → IsPassing (with_row rows number (Some (change row)))
passing_changed change rows number row is h = subst (λ (o : Option TradeRow). IsPassing (with_row rows number (changed_row change o))) is h

-- the amount that a cut leaves
pub left_is : {A : Type 0} (t : Bool) (left to : A) → Some left ≡ (if t then Some to else None) → to ≡ left
left_is true left to e = cc
left_is false left to e = cc

live_counts : (state : TradeState) → IsTrue (is_live state) → IsTrue (counts state)
live_counts Alleged h = cc
live_counts Live h = refl
live_counts Ended h = cc

-- a trade that counts is within the limit
amount_le : (rows : List TradeRow) (number : ℕ) (row : TradeRow) → trade_numbered rows number ≡ Some row → IsTrue (is_live row.state) → ((product : ℕ) → gross_of product rows ≤ gross_limit) → row.amount ≤ gross_limit
amount_le rows number row is live bounded =
    let at_place = placed rows number row is in
    let found = get_or_from_slice_get rows (number - 1) row row at_place.2 in
    let part = ap (gross_part row.product) found in
    let whole : gross_part row.product row ≡ row.amount = counted (row.product == row.product) (counts row.state) (own row.product) (live_counts row.state live) in
    omega (arith, bounded row.product, get_or-le-sum_by (gross_part row.product) rows (number - 1) row at_place.1, part, whole)
  where
    own : (n : ℕ) → (n == n) ≡ true
    own n = grind (arith, nat_tests)

    counted : (a b : Bool) → a ≡ true → b ≡ true → (if a && b then row.amount else 0) ≡ row.amount
    counted true true e e' = refl
    counted true false e e' = cc
    counted false b e e' = cc

live_there : (o : Option TradeRow) → IsLiveTrade o → IsTrue (is_some o)
live_there None h = absurd h
live_there (Some row) h = refl

fall_runs : (rows : List TradeRow) (trade from to : ℕ) (o : Option TradeRow) → trade_numbered rows trade ≡ o → MayFall from to o → ((product : ℕ) → gross_of product rows ≤ gross_limit) → IsTrue (is_some o) × (1 ≤ to) × (to ≤ gross_limit)
fall_runs rows trade from to None is h bounded = absurd h
fall_runs rows trade from to (Some row) is h bounded = (refl, h.2, omega (arith, h.1, h.3, amount_le rows trade row is h.0 bounded))

step_runs : (members products : ℕ) (rows : List TradeRow) (step : PlanRow) → ((product : ℕ) → gross_of product rows ≤ gross_limit) → IsStep members products rows step → CanRun rows step
step_runs members products rows (End trade) bounded h = live_there (trade_numbered rows trade) h
step_runs members products rows (Cut trade from to) bounded h = fall_runs rows trade from to (trade_numbered rows trade) refl h bounded
step_runs members products rows (New product seller buyer amount day) bounded h = tt

-- what the trades allow can run
pub steps_run : (members products submitted : ℕ) (rows : List TradeRow) (plan : List PlanRow) → IsBook members products submitted rows → IsExecutable members products rows plan → All (CanRun rows) plan
steps_run members products submitted rows plan book may = All-weaker (IsStep members products rows) (CanRun rows) (λ step h. step_runs members products rows step book.bounded h) plan may.steps

-- a step that the trades allow makes such a trade
step_makes : (members products : ℕ) (rows : List TradeRow) (step : PlanRow) → IsStep members products rows step → IsMade members products step
step_makes members products rows (End trade) h = tt
step_makes members products rows (Cut trade from to) h = tt
step_makes members products rows (New product seller buyer amount day) h = h

pub steps_made : (members products : ℕ) (rows : List TradeRow) (plan : List PlanRow) → IsExecutable members products rows plan → All (IsMade members products) plan
steps_made members products rows plan may = All-weaker (IsStep members products rows) (IsMade members products) (step_makes members products rows) plan may.steps

-- one trade is changed, but for its number, its product and its parties
trades_with : (change : TradeRow → TradeRow) (members products : ℕ) (rows : List TradeRow) (number : ℕ) (o : Option TradeRow) → ((n : ℕ) (row : TradeRow) → IsTrade members products n row → IsTrade members products n (change row)) → trade_numbered rows number ≡ o →
    AreTrades members products 1 rows → AreTrades members products 1 (with_row rows number (changed_row change o))
trades_with change members products rows number None keeps is are = are
trades_with change members products rows number (Some row) keeps is are =
    let at_place = placed rows number row is in
    trades_set members products 1 rows (number - 1) (change row) are (keeps (1 + (number - 1)) row (trades_at members products 1 rows (number - 1) row are at_place.2))

pub trades_after : (members products : ℕ) (rows : List TradeRow) (step : PlanRow) → IsMade members products step → AreTrades members products 1 rows → AreTrades members products 1 (after_step rows step)
trades_after members products rows (End trade) made are =
    trades_with ended_row members products rows trade (trade_numbered rows trade) (λ n row is. record { number = is.number; product = is.product; seller = is.seller; buyer = is.buyer; different = is.different }) refl are
trades_after members products rows (Cut trade from to) made are =
    trades_with (cut_row to) members products rows trade (trade_numbered rows trade) (λ n row is. record { number = is.number; product = is.product; seller = is.seller; buyer = is.buyer; different = is.different }) refl are
trades_after members products rows (New product seller buyer amount day) made are =
    trades_push members products 1 rows (made_row (length rows + 1) product seller buyer amount day) are
    (record { number = omega arith; product = made.0; seller = made.1; buyer = made.2; different = made.3 })

trades_executed : (members products : ℕ) (plan : List PlanRow) (rows : List TradeRow) → All (IsMade members products) plan → AreTrades members products 1 rows → AreTrades members products 1 (executed plan rows)
trades_executed members products [] rows made are = are
trades_executed members products (step ∷ plan) rows made are =
    trades_executed members products plan (after_step rows step) (All-tail (IsMade members products) step plan made) (trades_after members products rows step (All-head (IsMade members products) step plan made) are)

submitted_with : (change : TradeRow → TradeRow) (rows : List TradeRow) (number : ℕ) (o : Option TradeRow) → ((row : TradeRow) → (change row).submitter ≡ row.submitter) → trade_numbered rows number ≡ o →
    submitted_count (with_row rows number (changed_row change o)) ≡ submitted_count rows
submitted_with change rows number None keeps is = refl
submitted_with change rows number (Some row) keeps is =
    let at_place = placed rows number row is in
    submitted_set rows (number - 1) row (change row) at_place.1 (get_or_from_slice_get rows (number - 1) row row at_place.2) (keeps row)

submitted_after : (rows : List TradeRow) (step : PlanRow) → submitted_count (after_step rows step) ≡ submitted_count rows
submitted_after rows (End trade) = submitted_with ended_row rows trade (trade_numbered rows trade) (λ row. refl) refl
submitted_after rows (Cut trade from to) = submitted_with (cut_row to) rows trade (trade_numbered rows trade) (λ row. refl) refl
submitted_after rows (New product seller buyer amount day) = submitted_by_nobody rows (made_row (length rows + 1) product seller buyer amount day) refl

submitted_executed : (plan : List PlanRow) (rows : List TradeRow) → submitted_count (executed plan rows) ≡ submitted_count rows
submitted_executed [] rows = refl
submitted_executed (step ∷ plan) rows = submitted_executed plan (after_step rows step) ∙ submitted_after rows step

-- the book after a plan
pub book_executed : (members products submitted : ℕ) (rows : List TradeRow) (plan : List PlanRow) → IsBook members products submitted rows → IsExecutable members products rows plan → IsBook members products submitted (executed plan rows)
book_executed members products submitted rows plan book may = record {
  few_members = book.few_members;
  few_products = book.few_products;
  trades = trades_executed members products plan rows (All-weaker (IsStep members products rows) (IsMade members products) (step_makes members products rows) plan may.steps) book.trades;
  bounded = may.bounded;
  counted = book.counted ∙ sym (submitted_executed plan rows);
}
