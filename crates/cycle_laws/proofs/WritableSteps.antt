-- What one change of a legal history leaves of a state that can be written as a base: its cycle, its fresh rows, and how many trades were submitted.
use Rattle.std.proofs.Common.{◌≡◌, ℕ, ◌+◌, ◌≤◌, ◌&&◌, ◌||◌, not, nat_le, Bool, true, false, cond, List, [], ◌∷◌, length, Option, Some, None, is_some, unwrap_or, All, refl, subst, ◌∙◌, arith}
use Rattle.std.proofs.lemmas.Bool.Decides.{nat_tests}
use Rattle.std.proofs.lemmas.List.Elements.{All-nil, All-cons, All-append}
use Rattle.units_core.specs.Day.{DayParts}
use Rattle.units_core.specs.declared.limits.TheConstants.{MOST_SUBMITTED}
use Rattle.network_laws.specs.Solutions.{SolutionData}
use Rattle.command_types.specs.declared.ask.What.{What}
use Rattle.command_types.specs.declared.ask.What.TheVariants.{Trade, Affirm, End, Hold, Free, Freeze, Begin, Post, Accept, Decline, Cancel}
use Rattle.command_types.specs.declared.figures.State.{State}
use Rattle.command_types.specs.declared.plan.PlanRow.{PlanRow}
use Rattle.command_types.specs.declared.refusal.Refusal.TheVariants.{NotGreeted}
use Rattle.command_types.specs.declared.trade.Side.{Side}
use Rattle.command_types.specs.declared.trade.Side.TheVariants.{Out, In}
use Rattle.command_types.specs.declared.trade.TradeState.TheVariants.{Ended}
use Rattle.command_types.specs.declared.trade.TradeRow.{TradeRow}
use Rattle.command_types.specs.Roster.{is_party}
use Rattle.command_types.specs.Trades.{is_alleged, is_live, hold_of, submitted_count, trade_numbered, live_row, row_ended_by, row_with_hold, alleged_row}
use Rattle.command_types.specs.Plans.{executed, thawed}
use Rattle.command_types.specs.Cycles.{is_taken, may_break, posted_plan}
use Rattle.command_types.specs.CycleSteps.{is_frozen_and_marked, proposed_or_done, touched_in, after_vote, left_after}
use Rattle.command_types.specs.Machine.{first_of, refusals, member_of, product_of, side_at, side_in, side_of, state_by, hold_refusals, free_refusals}
use Rattle.cycle_states.proofs.MachineFacts.{none_holds, not_false, neither, terms_stand}
use Rattle.cycle_states.proofs.KeptFacts.{accept_proposed}
use Rattle.cycle_laws.proofs.Writable.{IsLeft, IsFreshRow, left_ended, left_posted, left_voted, fresh_ended_by, fresh_held, all_changed, fresh_all_flagged, fresh_executed, count_changed, count_flagged, count_alleged, count_executed}

-- ---- commands on live trades

hold_live : (s : State) (by : Option (List ℕ)) (trade : ℕ) (row : TradeRow) → first_of (refusals s by (Hold trade)) ≡ None → trade_numbered s.trades trade ≡ Some row → is_live row.state ≡ true
hold_live s by trade row none is =
    let P : Option TradeRow → Type 0 = λ o. first_of ((not (is_party s.roster by), NotGreeted) ∷ hold_refusals s (unwrap_or by []) o) ≡ None in
    let holds = none_holds ((not (is_party s.roster by), NotGreeted) ∷ hold_refusals s (unwrap_or by []) (Some row)) (subst P is none) in
    not_false (is_live row.state) (neither (not (is_live row.state)) (hold_of (side_in s (unwrap_or by []) row) row) holds.1.1.0).0

free_live : (s : State) (by : Option (List ℕ)) (trade : ℕ) (row : TradeRow) → first_of (refusals s by (Free trade)) ≡ None → trade_numbered s.trades trade ≡ Some row → is_live row.state ≡ true
free_live s by trade row none is =
    let P : Option TradeRow → Type 0 = λ o. first_of ((not (is_party s.roster by), NotGreeted) ∷ free_refusals s (unwrap_or by []) o) ≡ None in
    let holds = none_holds ((not (is_party s.roster by), NotGreeted) ∷ free_refusals s (unwrap_or by []) (Some row)) (subst P is none) in
    not_false (is_live row.state) (neither (not (is_live row.state)) (not (hold_of (side_in s (unwrap_or by []) row) row)) holds.1.1.0).0

held_submitter : (held : Bool) (side : Side) (row : TradeRow) → (row_with_hold held side row).submitter ≡ row.submitter
held_submitter held Out row = refl
held_submitter held In row = refl

ended_submitter : (t : Bool) (side : Side) (row : TradeRow) → (cond {A = TradeRow} t (record row { state = Ended }) (record row { mark = Some side })).submitter ≡ row.submitter
ended_submitter true side row = refl
ended_submitter false side row = refl

-- there is room for one more
room_for : (n : ℕ) → nat_le MOST_SUBMITTED n ≡ false → n + 1 ≤ MOST_SUBMITTED
room_for n e = grind (arith, nat_tests)

-- ---- a step

pub left_by : (s : State) (by : Option (List ℕ)) (what : What) → first_of (refusals s by what) ≡ None → IsLeft s.cycle → IsLeft (state_by s by what).cycle
left_by s by (End trade) none left = left_ended (may_break s.cycle.phase && is_frozen_and_marked (trade_numbered s.trades trade)) s.cycle trade left
left_by s by (Freeze day) none left = λ closed. absurd cc
left_by s by (Begin cycle mode) none left = λ closed. absurd cc
left_by s by (Post cycle version solutions) none left = left_posted s solutions (posted_plan s.cycle s.trades solutions) (touched_in s (posted_plan s.cycle s.trades solutions))
left_by s by (Accept cycle version) none left = left_voted s (member_of s (unwrap_or by [])) (left_after s (member_of s (unwrap_or by []))) (accept_proposed s by cycle version none)
left_by s by (Decline cycle version) none left = λ closed. absurd cc
left_by s by (Cancel cycle) none left = λ closed. refl
left_by s by what none left = left

fresh_thawed : (rows : List TradeRow) → All IsFreshRow rows → All IsFreshRow (thawed rows)
fresh_thawed rows all = fresh_all_flagged (λ _. false) rows all

fresh_posted : (s : State) (solutions : List SolutionData) (plan : List PlanRow) (touched : List ℕ) → All IsFreshRow s.trades → All IsFreshRow (proposed_or_done s solutions plan touched).trades
fresh_posted s solutions plan [] all = fresh_thawed (executed plan s.trades) (fresh_executed plan s.trades all)
fresh_posted s solutions plan (member ∷ members) all = all

fresh_voted : (s : State) (member : ℕ) (left : List ℕ) → All IsFreshRow s.trades → All IsFreshRow (after_vote s member left).trades
fresh_voted s member [] all = fresh_thawed (executed s.cycle.plan s.trades) (fresh_executed s.cycle.plan s.trades all)
fresh_voted s member (voter ∷ voters) all = all

pub fresh_by : (s : State) (by : Option (List ℕ)) (what : What) → first_of (refusals s by what) ≡ None → All IsFreshRow s.trades → All IsFreshRow (state_by s by what).trades
fresh_by s by (Trade seller buyer product amount day) none all =
    let row = alleged_row (length s.trades + 1) (member_of s seller) (member_of s buyer) (product_of s product) amount day (side_of (unwrap_or by []) seller) in
    All-append IsFreshRow s.trades (row ∷ []) all (All-cons IsFreshRow row [] (refl, refl, refl, refl) (All-nil IsFreshRow))
fresh_by s by (Affirm trade) none all = all_changed IsFreshRow live_row s.trades trade (λ row is fresh. tt) all
fresh_by s by (End trade) none all =
    let side = side_at s (unwrap_or by []) (trade_numbered s.trades trade) in
    all_changed IsFreshRow (row_ended_by side) s.trades trade (λ row is fresh. fresh_ended_by (is_alleged row.state || is_some row.mark) side row refl) all
fresh_by s by (Hold trade) none all =
    let side = side_at s (unwrap_or by []) (trade_numbered s.trades trade) in
    all_changed IsFreshRow (row_with_hold true side) s.trades trade (λ row is fresh. fresh_held true side row (hold_live s by trade row none is)) all
fresh_by s by (Free trade) none all =
    let side = side_at s (unwrap_or by []) (trade_numbered s.trades trade) in
    all_changed IsFreshRow (row_with_hold false side) s.trades trade (λ row is fresh. fresh_held false side row (free_live s by trade row none is)) all
fresh_by s by (Freeze day) none all = fresh_all_flagged (is_taken s.roster.products day) s.trades all
fresh_by s by (Post cycle version solutions) none all = fresh_posted s solutions (posted_plan s.cycle s.trades solutions) (touched_in s (posted_plan s.cycle s.trades solutions)) all
fresh_by s by (Accept cycle version) none all = fresh_voted s (member_of s (unwrap_or by [])) (left_after s (member_of s (unwrap_or by []))) all
fresh_by s by (Cancel cycle) none all = fresh_thawed s.trades all
fresh_by s by what none all = all

count_done : (plan : List PlanRow) (rows : List TradeRow) → submitted_count (thawed (executed plan rows)) ≡ submitted_count rows
count_done plan rows = count_flagged (λ _. false) (executed plan rows) ∙ count_executed plan rows

few_posted : (s : State) (solutions : List SolutionData) (plan : List PlanRow) (touched : List ℕ) → submitted_count (proposed_or_done s solutions plan touched).trades ≡ submitted_count s.trades
few_posted s solutions plan [] = count_done plan s.trades
few_posted s solutions plan (member ∷ members) = refl

few_voted : (s : State) (member : ℕ) (left : List ℕ) → submitted_count (after_vote s member left).trades ≡ submitted_count s.trades
few_voted s member [] = count_done s.cycle.plan s.trades
few_voted s member (voter ∷ voters) = refl

few_alleged : (s : State) (by : Option (List ℕ)) (seller buyer product : List ℕ) (amount : ℕ) (day : DayParts) → first_of (refusals s by (Trade seller buyer product amount day)) ≡ None → submitted_count s.trades + 1 ≤ MOST_SUBMITTED
few_alleged s None seller buyer product amount day none = absurd cc
few_alleged s (Some name) seller buyer product amount day none =
    room_for (submitted_count s.trades) (terms_stand s (Some name) name seller buyer product amount day refl none).1.1.1.1.1.1.1.0

pub few_by : (s : State) (by : Option (List ℕ)) (what : What) → first_of (refusals s by what) ≡ None → submitted_count s.trades ≤ MOST_SUBMITTED → submitted_count (state_by s by what).trades ≤ MOST_SUBMITTED
few_by s by (Trade seller buyer product amount day) none few =
    omega (
      arith,
      few_alleged s by seller buyer product amount day none,
      count_alleged s.trades (length s.trades + 1) (member_of s seller) (member_of s buyer) (product_of s product) amount day (side_of (unwrap_or by []) seller),
    )
few_by s by (Affirm trade) none few = omega (arith, few, count_changed live_row s.trades trade (λ row. refl))
few_by s by (End trade) none few =
    let side = side_at s (unwrap_or by []) (trade_numbered s.trades trade) in
    omega (arith, few, count_changed (row_ended_by side) s.trades trade (λ row. ended_submitter (is_alleged row.state || is_some row.mark) side row))
few_by s by (Hold trade) none few =
    let side = side_at s (unwrap_or by []) (trade_numbered s.trades trade) in
    omega (arith, few, count_changed (row_with_hold true side) s.trades trade (λ row. held_submitter true side row))
few_by s by (Free trade) none few =
    let side = side_at s (unwrap_or by []) (trade_numbered s.trades trade) in
    omega (arith, few, count_changed (row_with_hold false side) s.trades trade (λ row. held_submitter false side row))
few_by s by (Freeze day) none few = omega (arith, few, count_flagged (is_taken s.roster.products day) s.trades)
few_by s by (Post cycle version solutions) none few =
    omega (arith, few, few_posted s solutions (posted_plan s.cycle s.trades solutions) (touched_in s (posted_plan s.cycle s.trades solutions)))
few_by s by (Accept cycle version) none few = omega (arith, few, few_voted s (member_of s (unwrap_or by [])) (left_after s (member_of s (unwrap_or by []))))
few_by s by (Cancel cycle) none few = omega (arith, few, count_flagged (λ _. false) s.trades)
few_by s by what none few = few
