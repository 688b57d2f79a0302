-- What an accepted change posts is least, and where it executes a plan every net stays.
use Rattle.std.proofs.Common.{◌≡◌, ℕ, ◌≤◌, true, List, [], length, Option, None, unwrap_or, IsTrue, All, refl, sym, ap, ◌∙◌, arith}
use Rattle.std.proofs.lemmas.Bool.{false≢true}
use Rattle.units_core.specs.Day.{DayParts}
use Rattle.network_laws.specs.Solutions.{SolutionData, IsSolution}
use Rattle.command_types.specs.declared.ask.What.{What}
use Rattle.command_types.specs.declared.ask.What.TheVariants.{Trade, Affirm, End, Hold, Free, Tol, Freeze, Begin, Post, Accept, Decline, Cancel}
use Rattle.command_types.specs.declared.figures.Cycle.{Cycle}
use Rattle.command_types.specs.declared.figures.State.{State}
use Rattle.command_types.specs.declared.plan.PlanRow.{PlanRow}
use Rattle.command_types.specs.declared.tolerance.ToleranceRow.{ToleranceRow}
use Rattle.command_types.specs.declared.trade.TradeRow.{TradeRow}
use Rattle.command_types.specs.Roster.{Rows}
use Rattle.command_types.specs.Trades.{gross_of, trade_numbered}
use Rattle.command_types.specs.Plans.{executed, thawed}
use Rattle.command_types.specs.Cycles.{posted_plan}
use Rattle.command_types.specs.CycleSteps.{touched_in, left_after}
use Rattle.command_types.specs.Machine.{first_of, refusals, changes, accepted, member_of, state_by}
use Rattle.command_types.specs.History.{solutions_posted}
use Rattle.acceptance.specs.Laws.{position}
use Rattle.trade_history.specs.Laws.{is_execution}
use Rattle.trade_history.proofs.Steps.{end-told}
use Rattle.product_book.specs.Book.{gross_limit, AreTrades}
use Rattle.posting.specs.Laws.{IsSettled, KeepsNets, AreLeast}
use Rattle.posting.proofs.Settled.{begun_is_least}
use Rattle.cycle_states.specs.Machine.{state_with, IsMachine}
use Rattle.cycle_states.proofs.CycleFacts.{limits_break, solving_limits}
use Rattle.cycle_states.proofs.KeptFacts.{post_solves, post_certified, accept_proposed}
use Rattle.cycle_states.proofs.SettledFacts.{begun_of, market, settled, proposal_settled, done_after, last_after, nobody_touched, nobody_left}
use Rattle.cycle_states.proofs.Thawing.{gross_thawed, position_thawed}

some_day : DayParts
some_day = record { year = 0; month = 0; day = 0 }

module _ (roster : Rows) (members products : ℕ) (rows : List TradeRow) (settings : List ToleranceRow) (cycle : Cycle) (kept : IsMachine roster members products rows cycle)
    (trades : AreTrades members products 1 rows) (bounded : (product : ℕ) → gross_of product rows ≤ gross_limit) where
  abbrev s : State
  s = state_with roster rows settings cycle

  -- what an accepted POST posts is least
  pub least_posted : (by : Option (List ℕ)) (what : What) → first_of (refusals s by what) ≡ None → All IsSolution (solutions_posted what) → AreLeast cycle.begun (solutions_posted what)
  least_posted by (Post number version solutions) none sound =
      let stands = solving_limits cycle.phase (post_solves s by number version solutions none) in
      begun_is_least roster rows cycle.begun (begun_of roster rows cycle (kept.cycle_kept.begun stands)) solutions some_day (market roster members products rows cycle kept (limits_break cycle.phase stands) trades bounded) sound
      (post_certified s by number version solutions none)
  least_posted by what none sound = λ product problem solution p q. cc

  after_plan : (plan : List PlanRow) (after : State) → IsSettled (length roster.members) (length roster.products) rows plan → after.trades ≡ thawed (executed plan rows) → KeepsNets roster s after
  after_plan plan after is same = record {
    positions = λ product member in_products in_members.
        ap (position product member) same ∙ position_thawed product member (executed plan rows) ∙ is.positions product member in_products in_members;
    gross = λ product. omega (arith, ap (gross_of product) same, gross_thawed product (executed plan rows), is.gross product);
  }

  post_keeps : (by : Option (List ℕ)) (number version : ℕ) (solutions : List SolutionData) → first_of (refusals s by (Post number version solutions)) ≡ None → All IsSolution solutions →
      IsTrue (is_execution (accepted s by (Post number version solutions))) → KeepsNets roster s (state_by s by (Post number version solutions))
  post_keeps by number version solutions none sound told =
      let plan = posted_plan cycle rows solutions in
      let stands = solving_limits cycle.phase (post_solves s by number version solutions none) in
      after_plan plan (state_by s by (Post number version solutions))
      (settled roster members products rows cycle kept solutions stands (post_certified s by number version solutions none) sound trades bounded)
      (ap (λ (n : State). n.trades) (sym (done_after s solutions plan (touched_in s plan) (nobody_touched s solutions (touched_in s plan) told))))

  accept_keeps : (by : Option (List ℕ)) (number version : ℕ) → first_of (refusals s by (Accept number version)) ≡ None →
      IsTrue (is_execution (accepted s by (Accept number version))) → KeepsNets roster s (state_by s by (Accept number version))
  accept_keeps by number version none told =
      let on = accept_proposed s by number version none in
      let member = member_of s (unwrap_or by []) in
      let left = left_after s member in
      after_plan cycle.plan (state_by s by (Accept number version)) (proposal_settled roster members products rows cycle kept on trades bounded)
      (ap (λ (n : State). n.trades) (sym (last_after s member left (length left) refl (ap length (nobody_left cycle left told)))))

  -- and where an accepted change is answered by an execution, every net stays and no gross grows
  pub nets_kept : (by : Option (List ℕ)) (what : What) → changes what ≡ true → first_of (refusals s by what) ≡ None → All IsSolution (solutions_posted what) → IsTrue (is_execution (accepted s by what)) → KeepsNets roster s (state_by s by what)
  nets_kept by (Post number version solutions) change none sound told = post_keeps by number version solutions none sound told
  nets_kept by (Accept number version) change none sound told = accept_keeps by number version none told
  nets_kept by (End trade) change none sound told = absurd (false≢true (sym (end-told trade (trade_numbered rows trade)) ∙ told))
  nets_kept by (Trade seller buyer product amount day) change none sound told = absurd (false≢true told)
  nets_kept by (Affirm trade) change none sound told = absurd (false≢true told)
  nets_kept by (Hold trade) change none sound told = absurd (false≢true told)
  nets_kept by (Free trade) change none sound told = absurd (false≢true told)
  nets_kept by (Tol other product side floor ceiling) change none sound told = absurd (false≢true told)
  nets_kept by (Freeze day) change none sound told = absurd (false≢true told)
  nets_kept by (Begin number mode) change none sound told = absurd (false≢true told)
  nets_kept by (Decline number version) change none sound told = absurd (false≢true told)
  nets_kept by (Cancel number) change none sound told = absurd (false≢true told)
  nets_kept by what change none sound told = absurd (false≢true change)
