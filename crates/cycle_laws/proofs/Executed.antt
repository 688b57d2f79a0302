-- A change whose answer tells an execution: whose solutions it executes, and that it executes their plan.
use Rattle.std.proofs.Common.{◌≡◌, ℕ, true, List, [], ◌∷◌, ◌++◌, length, Option, None, unwrap_or, IsTrue, All, refl, sym, ap, ◌∙◌}
use Rattle.std.proofs.lemmas.Bool.{false≢true}
use Rattle.network_laws.specs.Solutions.{SolutionData, IsSolution}
use Rattle.command_types.specs.declared.ask.Entry.{Entry}
use Rattle.command_types.specs.declared.ask.What.{What}
use Rattle.command_types.specs.declared.ask.What.TheVariants.{Trade, Affirm, End, Hold, Free, Tol, Freeze, Begin, Post, Accept, Decline, Cancel}
use Rattle.command_types.specs.declared.figures.State.{State}
use Rattle.command_types.specs.declared.plan.PlanRow.{PlanRow}
use Rattle.command_types.specs.Roster.{Rows}
use Rattle.command_types.specs.Trades.{trade_numbered}
use Rattle.command_types.specs.Plans.{executed, thawed}
use Rattle.command_types.specs.Cycles.{has_limits, is_proposed, bad_post, posted_plan}
use Rattle.command_types.specs.CycleSteps.{touched_in, left_after}
use Rattle.command_types.specs.Machine.{first_of, refusals, changes, accepted, member_of, state_by}
use Rattle.command_types.specs.History.{solutions_posted}
use Rattle.trade_history.specs.Laws.{is_execution}
use Rattle.trade_history.proofs.Steps.{end-told}
use Rattle.cycle_states.proofs.CycleFacts.{solving_limits, proposed_limits}
use Rattle.cycle_states.proofs.KeptFacts.{post_solves, post_certified, accept_proposed}
use Rattle.cycle_states.proofs.SettledFacts.{done_after, last_after, nobody_touched, nobody_left}
use Rattle.cycle_laws.specs.Histories.{HasPosted}
use Rattle.cycle_laws.proofs.Market.{IsMarket}
use Rattle.cycle_laws.proofs.Traces.{posted_now, posted_still}

-- solutions that were posted in the version that stands, certified for its problems, and the trades after their plan
pub record RunsSolutions (s after : State) (entries : List Entry) : Type 0 where
  pub solutions : List SolutionData
  pub sound : All IsSolution solutions
  pub stands : IsTrue (has_limits s.cycle.phase)
  pub certified : bad_post (length s.roster.members) s.cycle.begun solutions ≡ None
  pub posted : HasPosted entries s.cycle.number s.cycle.version solutions
  pub trades : after.trades ≡ thawed (executed (posted_plan s.cycle s.trades solutions) s.trades)

post_executes : (s : State) (past : List Entry) (entry : Entry) (number version : ℕ) (solutions : List SolutionData) → entry.ask.what ≡ Post number version solutions → first_of (refusals s entry.ask.by (Post number version solutions)) ≡ None →
    All IsSolution solutions → IsTrue (is_execution (accepted s entry.ask.by (Post number version solutions))) → RunsSolutions s (state_by s entry.ask.by (Post number version solutions)) (past ++ entry ∷ [])
post_executes s past entry number version solutions is none sound told =
    let plan = posted_plan s.cycle s.trades solutions in
    record {
      solutions = solutions;
      sound = sound;
      stands = solving_limits s.cycle.phase (post_solves s entry.ask.by number version solutions none);
      certified = post_certified s entry.ask.by number version solutions none;
      posted = posted_now s past entry number version solutions none is;
      trades = ap (λ (n : State). n.trades) (sym (done_after s solutions plan (touched_in s plan) (nobody_touched s solutions (touched_in s plan) told)));
    }

accept_executes : (roster : Rows) (s : State) (past : List Entry) (entry : Entry) (number version : ℕ) → first_of (refusals s entry.ask.by (Accept number version)) ≡ None → IsMarket roster s →
    (IsTrue (is_proposed s.cycle.phase) → HasPosted past s.cycle.number s.cycle.version s.cycle.solutions) → IsTrue (is_execution (accepted s entry.ask.by (Accept number version))) →
    RunsSolutions s (state_by s entry.ask.by (Accept number version)) (past ++ entry ∷ [])
accept_executes roster s past entry number version none market posted told =
    let on = accept_proposed s entry.ask.by number version none in
    let proposal = market.cycle.proposed on in
    let member = member_of s (unwrap_or entry.ask.by []) in
    let left = left_after s member in
    record {
      solutions = s.cycle.solutions;
      sound = proposal.solutions;
      stands = proposed_limits s.cycle.phase on;
      certified = proposal.certified;
      posted = posted_still past entry s.cycle.number s.cycle.version s.cycle.solutions (posted on);
      trades = ap (λ (n : State). n.trades) (sym (last_after s member left (length left) refl (ap length (nobody_left s.cycle left told))))
          ∙ ap (λ (plan : List PlanRow). thawed (executed plan s.trades)) proposal.planned;
    }

executes_by : (roster : Rows) (s : State) (past : List Entry) (seat : ℕ) (by : Option (List ℕ)) (moment : ℕ) (what : What) → changes what ≡ true → first_of (refusals s by what) ≡ None → All IsSolution (solutions_posted what) → IsMarket roster s →
    (IsTrue (is_proposed s.cycle.phase) → HasPosted past s.cycle.number s.cycle.version s.cycle.solutions) → IsTrue (is_execution (accepted s by what)) →
    RunsSolutions s (state_by s by what) (past ++ record { seat = seat; ask = record { by = by; what = what; moment = moment } } ∷ [])
executes_by roster s past seat by moment (Post number version solutions) change none sound market posted told =
    post_executes s past (record { seat = seat; ask = record { by = by; what = Post number version solutions; moment = moment } }) number version solutions refl none sound told
executes_by roster s past seat by moment (Accept number version) change none sound market posted told =
    accept_executes roster s past (record { seat = seat; ask = record { by = by; what = Accept number version; moment = moment } }) number version none market posted told
executes_by roster s past seat by moment (End trade) change none sound market posted told = absurd (false≢true (sym (end-told trade (trade_numbered s.trades trade)) ∙ told))
executes_by roster s past seat by moment (Trade seller buyer product amount day) change none sound market posted told = absurd (false≢true told)
executes_by roster s past seat by moment (Affirm trade) change none sound market posted told = absurd (false≢true told)
executes_by roster s past seat by moment (Hold trade) change none sound market posted told = absurd (false≢true told)
executes_by roster s past seat by moment (Free trade) change none sound market posted told = absurd (false≢true told)
executes_by roster s past seat by moment (Tol other product side floor ceiling) change none sound market posted told = absurd (false≢true told)
executes_by roster s past seat by moment (Freeze day) change none sound market posted told = absurd (false≢true told)
executes_by roster s past seat by moment (Begin number mode) change none sound market posted told = absurd (false≢true told)
executes_by roster s past seat by moment (Decline number version) change none sound market posted told = absurd (false≢true told)
executes_by roster s past seat by moment (Cancel number) change none sound market posted told = absurd (false≢true told)
executes_by roster s past seat by moment what change none sound market posted told = absurd (false≢true change)

-- an accepted change that is answered by an execution
pub runs_solutions : (roster : Rows) (s : State) (past : List Entry) (entry : Entry) → changes entry.ask.what ≡ true → first_of (refusals s entry.ask.by entry.ask.what) ≡ None → All IsSolution (solutions_posted entry.ask.what) → IsMarket roster s →
    (IsTrue (is_proposed s.cycle.phase) → HasPosted past s.cycle.number s.cycle.version s.cycle.solutions) → IsTrue (is_execution (accepted s entry.ask.by entry.ask.what)) → RunsSolutions s (state_by s entry.ask.by entry.ask.what) (past ++ entry ∷ [])
runs_solutions roster s past entry = executes_by roster s past entry.seat entry.ask.by entry.ask.moment entry.ask.what
