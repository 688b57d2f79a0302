-- What can be written of a state as a base stays so through every legal history that ends where no cycle is open.
use Rattle.std.proofs.Common.{◌≡◌, ℕ, suc, ◌+◌, ◌-◌, ◌||◌, Bool, true, false, cond, List, [], ◌∷◌, ◌++◌, length, length-append, filter, map, Option, Some, None, is_some, All, if◌then◌else◌, refl, sym, ap, ◌∙◌}
use Rattle.std.proofs.lemmas.Bool.{false≢true}
use Rattle.std.proofs.lemmas.List.Elements.{All-set, All-nil, All-cons, All-map, All-append, All-weaker, filter-append}
use Rattle.std.proofs.lemmas.Option.{get_or_from_slice_get}
use Rattle.units_core.specs.Day.{DayParts}
use Rattle.network_laws.specs.Solutions.{SolutionData}
use Rattle.command_types.specs.declared.cycle.Phase.{Phase}
use Rattle.command_types.specs.declared.cycle.Phase.TheVariants.{None as NoPhase}
use Rattle.command_types.specs.declared.figures.Cycle.{Cycle}
use Rattle.command_types.specs.declared.figures.State.{State}
use Rattle.command_types.specs.declared.plan.PlanRow.{PlanRow}
use Rattle.command_types.specs.declared.plan.PlanRow.TheVariants as steps
use Rattle.command_types.specs.declared.trade.Side.{Side}
use Rattle.command_types.specs.declared.trade.Side.TheVariants.{Out, In}
use Rattle.command_types.specs.declared.trade.TradeRow.{TradeRow}
use Rattle.command_types.specs.declared.trade.TradeState.{TradeState}
use Rattle.command_types.specs.declared.trade.TradeState.TheVariants.{Alleged, Live, Ended}
use Rattle.command_types.specs.Trades.{is_alleged, is_live, submitted_count, trade_numbered, with_row, changed_row, with_changed, alleged_row, row_with_hold}
use Rattle.command_types.specs.Plans.{after_step, executed, ended_row, cut_row, made_row}
use Rattle.command_types.specs.Cycles.{closed, is_proposed, broken_at}
use Rattle.command_types.specs.CycleSteps.{proposed_or_done, after_vote}
use Rattle.command_types.specs.Bases.{IsFresh}
use Rattle.product_book.proofs.BookFacts.{placed, submitted_set, submitted_by_nobody}
use Rattle.posting.proofs.Places.{all_at}

-- ---- what is left of a cycle

-- where none is open, nothing but its numbers
abbrev pub IsLeft : Cycle → Type 0
IsLeft cycle = cycle.phase ≡ NoPhase → cycle ≡ closed cycle.number cycle.version

pub left_ended : (t : Bool) (cycle : Cycle) (trade : ℕ) → IsLeft cycle → IsLeft (if t then broken_at cycle trade else cycle)
left_ended true cycle trade left = λ none. absurd cc
left_ended false cycle trade left = left

pub left_posted : (s : State) (solutions : List SolutionData) (plan : List PlanRow) (touched : List ℕ) → IsLeft (proposed_or_done s solutions plan touched).cycle
left_posted s solutions plan [] = λ none. refl
left_posted s solutions plan (member ∷ members) = λ none. absurd cc

proposed_open : (phase : Phase) → is_proposed phase ≡ true → phase ≡ NoPhase → ⊥
proposed_open phase on none = false≢true (sym (ap is_proposed none) ∙ on)

pub left_voted : (s : State) (member : ℕ) (left : List ℕ) → is_proposed s.cycle.phase ≡ true → IsLeft (after_vote s member left).cycle
left_voted s member [] on = λ none. refl
left_voted s member (voter ∷ voters) on = λ none. absurd (proposed_open s.cycle.phase on none)

-- ---- rows, one by one

abbrev pub IsFreshRow : TradeRow → Type 0
IsFreshRow row = IsFresh row.state row

fresh_other : (state : TradeState) (row : TradeRow) → is_alleged state ≡ false → IsFresh state row
fresh_other Alleged row other = cc
fresh_other Live row other = tt
fresh_other Ended row other = tt

pub fresh_ended_by : (t : Bool) (side : Side) (row : TradeRow) → (is_alleged row.state || is_some row.mark) ≡ t → IsFreshRow (if t then record row { state = Ended } else record row { mark = Some side })
fresh_ended_by true side row is = tt
fresh_ended_by false side row is = fresh_other row.state (record row { mark = Some side }) (neither (is_alleged row.state) (is_some row.mark) is)
  where
    neither : (a b : Bool) → (a || b) ≡ false → a ≡ false
    neither true b e = cc
    neither false b e = refl

live_not_alleged : (state : TradeState) → is_live state ≡ true → is_alleged state ≡ false
live_not_alleged Alleged e = cc
live_not_alleged Live e = refl
live_not_alleged Ended e = cc

pub fresh_held : (held : Bool) (side : Side) (row : TradeRow) → is_live row.state ≡ true → IsFreshRow (row_with_hold held side row)
fresh_held held Out row live = fresh_other row.state (record row { hold_out = held }) (live_not_alleged row.state live)
fresh_held held In row live = fresh_other row.state (record row { hold_in = held }) (live_not_alleged row.state live)

fresh_cut : (to : ℕ) (state : TradeState) (row : TradeRow) → IsFresh state row → IsFresh state (cut_row to row)
fresh_cut to Alleged row fresh = fresh
fresh_cut to Live row fresh = tt
fresh_cut to Ended row fresh = tt

fresh_flagged : (flag : Bool) (state : TradeState) (row : TradeRow) → IsFresh state row → IsFresh state (record row { frozen = flag })
fresh_flagged flag Alleged row fresh = fresh
fresh_flagged flag Live row fresh = tt
fresh_flagged flag Ended row fresh = tt

-- ---- lists of rows

all_with : (P : TradeRow → Type 0) (change : TradeRow → TradeRow) (rows : List TradeRow) (number : ℕ) (o : Option TradeRow) → trade_numbered rows number ≡ o → ((row : TradeRow) → o ≡ Some row → P row → P (change row)) →
    All P rows → All P (with_row rows number (changed_row change o))
all_with P change rows number None is keeps all = all
all_with P change rows number (Some row) is keeps all =
    let there = placed rows number row is in
    All-set P rows (number - 1) (change row) (keeps row refl (all_at P rows (number - 1) row all there.2)) all

pub all_changed : (P : TradeRow → Type 0) (change : TradeRow → TradeRow) (rows : List TradeRow) (number : ℕ) → ((row : TradeRow) → trade_numbered rows number ≡ Some row → P row → P (change row)) →
    All P rows → All P (with_changed change rows number)
all_changed P change rows number keeps all = all_with P change rows number (trade_numbered rows number) refl keeps all

count_with : (change : TradeRow → TradeRow) (rows : List TradeRow) (number : ℕ) (o : Option TradeRow) → trade_numbered rows number ≡ o → ((row : TradeRow) → (change row).submitter ≡ row.submitter) →
    submitted_count (with_row rows number (changed_row change o)) ≡ submitted_count rows
count_with change rows number None is keeps = refl
count_with change rows number (Some row) is keeps =
    let there = placed rows number row is in
    submitted_set rows (number - 1) row (change row) there.1 (get_or_from_slice_get rows (number - 1) row row there.2) (keeps row)

pub count_changed : (change : TradeRow → TradeRow) (rows : List TradeRow) (number : ℕ) → ((row : TradeRow) → (change row).submitter ≡ row.submitter) → submitted_count (with_changed change rows number) ≡ submitted_count rows
count_changed change rows number keeps = count_with change rows number (trade_numbered rows number) refl keeps

one_longer : (t : Bool) (a b : TradeRow) (xs ys : List TradeRow) → length xs ≡ length ys → length (cond {A = List TradeRow} t (a ∷ xs) xs) ≡ length (cond {A = List TradeRow} t (b ∷ ys) ys)
one_longer true a b xs ys e = ap suc e
one_longer false a b xs ys e = e

abbrev pub flagged : (TradeRow → Bool) → TradeRow → TradeRow
flagged flag row = record row { frozen = flag row }

pub count_flagged : (flag : TradeRow → Bool) (rows : List TradeRow) → submitted_count (map (flagged flag) rows) ≡ submitted_count rows
count_flagged flag [] = refl
count_flagged flag (row ∷ rows) =
    one_longer (is_some row.submitter) (record row { frozen = flag row }) row
    (filter (λ r. is_some r.submitter) (map (flagged flag) rows)) (filter (λ r. is_some r.submitter) rows) (count_flagged flag rows)

pub fresh_all_flagged : (flag : TradeRow → Bool) (rows : List TradeRow) → All IsFreshRow rows → All IsFreshRow (map (flagged flag) rows)
fresh_all_flagged flag rows all =
    All-map IsFreshRow (flagged flag) rows
    (All-weaker IsFreshRow (λ row. IsFreshRow (flagged flag row)) (λ row fresh. fresh_flagged (flag row) row.state row fresh) rows all)

pub count_alleged : (rows : List TradeRow) (number seller buyer product amount : ℕ) (day : DayParts) (submitter : Side) →
    submitted_count (rows ++ alleged_row number seller buyer product amount day submitter ∷ []) ≡ submitted_count rows + 1
count_alleged rows number seller buyer product amount day submitter =
    let row = alleged_row number seller buyer product amount day submitter in
    let counted : TradeRow → Bool = λ r. is_some r.submitter in
    ap length (filter-append counted rows (row ∷ [])) ∙ length-append (filter counted rows) (row ∷ [])

-- ---- the steps of a plan

fresh_step : (rows : List TradeRow) (step : PlanRow) → All IsFreshRow rows → All IsFreshRow (after_step rows step)
fresh_step rows (steps.End trade) all = all_changed IsFreshRow ended_row rows trade (λ row is fresh. tt) all
fresh_step rows (steps.Cut trade from to) all = all_changed IsFreshRow (cut_row to) rows trade (λ row is fresh. fresh_cut to row.state row fresh) all
fresh_step rows (steps.New product seller buyer amount day) all =
    let row = made_row (length rows + 1) product seller buyer amount day in
    All-append IsFreshRow rows (row ∷ []) all (All-cons IsFreshRow row [] tt (All-nil IsFreshRow))

pub fresh_executed : (plan : List PlanRow) (rows : List TradeRow) → All IsFreshRow rows → All IsFreshRow (executed plan rows)
fresh_executed [] rows all = all
fresh_executed (step ∷ plan) rows all = fresh_executed plan (after_step rows step) (fresh_step rows step all)

count_step : (rows : List TradeRow) (step : PlanRow) → submitted_count (after_step rows step) ≡ submitted_count rows
count_step rows (steps.End trade) = count_changed ended_row rows trade (λ row. refl)
count_step rows (steps.Cut trade from to) = count_changed (cut_row to) rows trade (λ row. refl)
count_step rows (steps.New product seller buyer amount day) = submitted_by_nobody rows (made_row (length rows + 1) product seller buyer amount day) refl

pub count_executed : (plan : List PlanRow) (rows : List TradeRow) → submitted_count (executed plan rows) ≡ submitted_count rows
count_executed [] rows = refl
count_executed (step ∷ plan) rows = count_executed plan (after_step rows step) ∙ count_step rows step
