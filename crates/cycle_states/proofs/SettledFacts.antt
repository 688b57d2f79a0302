-- A posting that the machine accepts, and a proposal that it keeps, can be executed.
use Rattle.std.proofs.Common.{◌≡◌, ℕ, ◌≤◌, List, [], ◌∷◌, length, Option, Some, None, is_some, IsTrue, All, refl, sym, subst, arith}
use Rattle.std.proofs.lemmas.Bool.{false≢true}
use Rattle.std.proofs.lemmas.List.Elements.{All-weaker}
use Rattle.network_laws.specs.Solutions.{SolutionData, IsSolution}
use Rattle.units_core.specs.Day.{DayParts}
use Rattle.command_types.specs.declared.figures.Cycle.{Cycle}
use Rattle.command_types.specs.declared.figures.State.{State}
use Rattle.command_types.specs.declared.plan.PlanRow.{PlanRow}
use Rattle.command_types.specs.declared.plan.PlanRow.TheVariants.{End, Cut, New}
use Rattle.command_types.specs.declared.trade.TradeRow.{TradeRow}
use Rattle.command_types.specs.Roster.{Rows}
use Rattle.command_types.specs.Trades.{gross_of, trade_numbered}
use Rattle.command_types.specs.Cycles.{is_solving, is_proposed, may_break, has_limits, bad_post, plan_on, posted_plan, old_networks, new_networks}
use Rattle.command_types.specs.CycleSteps.{proposed_or_done, proposed_answer, after_vote, vote_answer, after_execution}
use Rattle.command_types.specs.Plans.{plan_of, count_of, is_new}
use Rattle.command_types.specs.Execution.{IsExecutable}
use Rattle.acceptance.specs.Parties.{HasPartiesBelow, IsStepBelow, IsPlanBelow}
use Rattle.trade_history.specs.Laws.{is_execution}
use Rattle.product_book.specs.Book.{gross_limit, AreTrades}
use Rattle.posting.specs.Laws.{AreBegun, IsFrozenMarket, IsSettled}
use Rattle.posting.specs.Posted.{AreOfMembers}
use Rattle.posting.proofs.CertifiedFacts.{shaped, shape_size}
use Rattle.posting.proofs.Settled.{begun_size, begun_of_members, begun_is_settled}
use Rattle.cycle_states.specs.Machine.{IsMachine, IsVersion}
use Rattle.cycle_states.proofs.PlanSizes.{few_made}
use Rattle.cycle_states.proofs.CycleFacts.{limits_break, proposed_limits, solving_limits}

-- a version's problems are those of some settings and a mode
pub begun_of : (roster : Rows) (rows : List TradeRow) (cycle : Cycle) → IsVersion roster rows cycle.mode cycle.settings cycle.begun → AreBegun roster rows cycle.begun
begun_of roster rows cycle version = record { settings = cycle.settings; mode = version.in_which; same = version.same }

module _ (roster : Rows) (members products : ℕ) (rows : List TradeRow) (cycle : Cycle) (kept : IsMachine roster members products rows cycle) where
  -- while the limits stand there are few problems, each of the roster's members
  pub few_problems : IsTrue (has_limits cycle.phase) → length cycle.begun ≤ 64
  few_problems stands = omega (arith, begun_size roster rows cycle.begun (begun_of roster rows cycle (kept.cycle_kept.begun stands)), kept.few_products)

  pub of_members : IsTrue (has_limits cycle.phase) → AreOfMembers (length roster.members) cycle.begun
  of_members stands = begun_of_members roster rows cycle.begun (begun_of roster rows cycle (kept.cycle_kept.begun stands))

  -- its day is there
  pub has_day : IsTrue (is_solving cycle.phase) → IsTrue (is_some cycle.day)
  has_day on = kept.cycle_kept.day (limits_break cycle.phase (solving_limits cycle.phase on))

  pub market : IsTrue (may_break cycle.phase) → AreTrades members products 1 rows → ((product : ℕ) → gross_of product rows ≤ gross_limit) → IsFrozenMarket roster rows
  market may trades bounded = record {
    few_members = kept.few_members;
    few_products = kept.few_products;
    trades = subst (λ n. AreTrades n (length roster.products) 1 rows) kept.book.members_all (subst (λ n. AreTrades members n 1 rows) kept.book.products_all trades);
    bounded = bounded;
    live = kept.unbroken may;
  }

  by_day : (day : Option DayParts) (solutions : List SolutionData) → IsTrue (is_some day) → ((d : DayParts) → IsSettled (length roster.members) (length roster.products) rows (plan_of rows (old_networks cycle.begun) (new_networks solutions) d)) →
      IsSettled (length roster.members) (length roster.products) rows (plan_on day rows (old_networks cycle.begun) (new_networks solutions))
  by_day None solutions there all = absurd (false≢true there)
  by_day (Some d) solutions there all = all d

  -- what certified solutions change can be executed
  pub settled : (solutions : List SolutionData) → IsTrue (has_limits cycle.phase) → bad_post (length roster.members) cycle.begun solutions ≡ None → All IsSolution solutions → AreTrades members products 1 rows → ((product : ℕ) → gross_of product rows ≤ gross_limit) →
      IsSettled (length roster.members) (length roster.products) rows (posted_plan cycle rows solutions)
  settled solutions stands certified sound trades bounded =
      let may : IsTrue (may_break cycle.phase) = limits_break cycle.phase stands in
      by_day cycle.day solutions (kept.cycle_kept.day may) (λ d. begun_is_settled roster rows cycle.begun (begun_of roster rows cycle (kept.cycle_kept.begun stands)) solutions d (market may trades bounded) sound certified)

  pub posting_settled : (solutions : List SolutionData) (plan : List PlanRow) → IsTrue (is_solving cycle.phase) → bad_post (length roster.members) cycle.begun solutions ≡ None → All IsSolution solutions → plan ≡ posted_plan cycle rows solutions →
      AreTrades members products 1 rows → ((product : ℕ) → gross_of product rows ≤ gross_limit) → IsSettled (length roster.members) (length roster.products) rows plan
  posting_settled solutions plan on certified sound planned trades bounded =
      subst (λ p. IsSettled (length roster.members) (length roster.products) rows p) (sym planned) (settled solutions (solving_limits cycle.phase on) certified sound trades bounded)

  -- so can the proposal
  pub proposal_settled : IsTrue (is_proposed cycle.phase) → AreTrades members products 1 rows → ((product : ℕ) → gross_of product rows ≤ gross_limit) → IsSettled (length roster.members) (length roster.products) rows cycle.plan
  proposal_settled on trades bounded =
      let q = kept.cycle_kept.proposed on in
      subst (λ plan. IsSettled (length roster.members) (length roster.products) rows plan) (sym q.planned) (settled cycle.solutions (proposed_limits cycle.phase on) q.certified q.solutions trades bounded)

  -- by a book of the roster's members and products
  pub executable : (plan : List PlanRow) → IsSettled (length roster.members) (length roster.products) rows plan → IsExecutable members products rows plan
  executable plan is = subst (λ n. IsExecutable n products rows plan) (sym kept.book.members_all) (subst (λ n. IsExecutable (length roster.members) n rows plan) (sym kept.book.products_all) is.executable)

  -- they make few new trades
  pub posting_few : (solutions : List SolutionData) → IsTrue (has_limits cycle.phase) → count_of is_new (posted_plan cycle rows solutions) ≤ 4194304
  posting_few solutions stands = few_made cycle.day rows (length roster.members) cycle.begun solutions kept.few_members (of_members stands) (few_problems stands)

  pub proposal_few : IsTrue (is_proposed cycle.phase) → count_of is_new cycle.plan ≤ 4194304
  proposal_few on = subst (λ plan. count_of is_new plan ≤ 4194304) (sym (kept.cycle_kept.proposed on).planned) (posting_few cycle.solutions (proposed_limits cycle.phase on))

  -- certified solutions are as many as the problems
  pub as_many : (solutions : List SolutionData) → bad_post (length roster.members) cycle.begun solutions ≡ None → length solutions ≡ length cycle.begun
  as_many solutions certified = shape_size (length roster.members) cycle.begun solutions (shaped (length roster.members) cycle.begun solutions certified)

-- the first is executed at once, and the other is proposed
pub done_after : (s : State) (solutions : List SolutionData) (plan : List PlanRow) (touched : List ℕ) → touched ≡ [] → after_execution s plan ≡ proposed_or_done s solutions plan touched
done_after s solutions plan [] is = refl
done_after s solutions plan (member ∷ members) is = cc

-- the last vote executes the plan, and any other is counted
pub last_after : (s : State) (member : ℕ) (left : List ℕ) (n : ℕ) → n ≡ length left → n ≡ 0 → after_execution s s.cycle.plan ≡ after_vote s member left
last_after s member [] n is none = refl
last_after s member (voter ∷ voters) n is none = absurd (omega (arith, is, none))

-- a posting that is answered by an execution touches nobody, and after a vote that is nobody's is left
pub nobody_touched : (s : State) (solutions : List SolutionData) (touched : List ℕ) → IsTrue (is_execution (proposed_answer s solutions touched)) → touched ≡ []
nobody_touched s solutions [] told = refl
nobody_touched s solutions (member ∷ members) told = absurd (false≢true told)

pub nobody_left : (cycle : Cycle) (left : List ℕ) → IsTrue (is_execution (vote_answer cycle left)) → left ≡ []
nobody_left cycle [] told = refl
nobody_left cycle (voter ∷ voters) told = absurd (false≢true told)
