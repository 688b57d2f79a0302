-- What the accepted commands of a cycle are answered, and what they change.
use Rattle.std.specs.Prelude.{ℕ, ◌+◌, ◌==◌, ◌&&◌, ◌||◌, not, is_some, Bool, false, List, [], ◌∷◌, ◌++◌, length, filter, slice_get, Option, Some, None, if◌then◌else◌}
use Rattle.units_core.specs.Day.{DayParts}
use Rattle.network_laws.specs.Networks.{NetworkData, gross, floor_m, excess, bilateral}
use Rattle.network_laws.specs.Solutions.{SolutionData}
use Rattle.command_types.specs.declared.answer.Answer.{Answer}
use Rattle.command_types.specs.declared.answer.Answer.TheVariants.{Market, Frozen, LimitRows, Proposed, Nothing, PlanRows, ProofRows, Accepted, Executed, No}
use Rattle.command_types.specs.declared.cycle.Mode.{Mode}
use Rattle.command_types.specs.declared.figures.Cycle.{Cycle}
use Rattle.command_types.specs.declared.figures.State.{State}
use Rattle.command_types.specs.declared.plan.PlanRow.{PlanRow}
use Rattle.command_types.specs.declared.refusal.Refusal.TheVariants.{NotGreeted}
use Rattle.command_types.specs.declared.trade.Side.{Side}
use Rattle.command_types.specs.declared.trade.TradeRow.{TradeRow}
use Rattle.command_types.specs.Roster.{is_operator}
use Rattle.command_types.specs.Books.{live_network}
use Rattle.command_types.specs.Tolerances.{with_setting}
use Rattle.command_types.specs.Plans.{is_in_step, touched_by, executed, count_of, is_end, is_cut, is_new, thawed}
use Rattle.command_types.specs.Cycles.{closed, opened, may_break, frozen_rows, problems_of, begun_with, lines_of_problem, gross_of_all, old_networks, new_networks, posted_plan, proposed_with, declined, broken_at}
use Rattle.command_types.specs.CycleRefusals.{has_voted}
use Rattle.command_types.specs.MemberProofs.{proof_rows}

-- the figures of a network
abbrev pub market_of : NetworkData → Answer
market_of network = Market (gross network) (floor_m network) (excess network) (bilateral network)

-- the figures of a product's live trades
abbrev pub market_in : State → ℕ → Answer
market_in s product = market_of (live_network (length s.roster.members) product s.trades)

-- all trades of a member, in the order of their numbers
abbrev pub rows_of_member : ℕ → List TradeRow → List TradeRow
rows_of_member member rows = filter (λ row. (row.seller == member) || (row.buyer == member)) rows

-- the setting of a member for its side of a pair in a product replaces the one before
abbrev pub with_tolerance : State → ℕ → ℕ → ℕ → Side → ℕ → Option ℕ → State
with_tolerance s member product other side floor ceiling =
    record s { tolerances = with_setting (record { member = member; product = product; other = other; side = side; floor = floor; ceiling = ceiling }) s.tolerances }

-- a freeze takes trades into the next cycle
abbrev pub after_freeze : State → DayParts → State
after_freeze s day = record s { trades = frozen_rows s.roster.products day s.trades; cycle = opened s.cycle day }

-- a freeze tells the next cycle's number, and how many trades it takes
abbrev pub freeze_answer : State → DayParts → Answer
freeze_answer s day = Frozen (1 + s.cycle.number) (length (filter (λ row. row.frozen) (frozen_rows s.roster.products day s.trades)))

-- the next version begins, with the problems that trades, settings and mode now make
abbrev pub after_begin : State → Mode → State
after_begin s mode = record s { cycle = begun_with s.cycle mode s.tolerances (problems_of s.roster s.trades s.tolerances mode) }

-- the limits of a product's pairs, as the version began with them
abbrev pub limits_answer : State → ℕ → Answer
limits_answer s product = LimitRows (lines_of_problem (slice_get s.cycle.begun product))

-- the members that a plan of this state touches
abbrev pub touched_in : State → List PlanRow → List ℕ
touched_in s plan = touched_by (length s.roster.members) s.trades plan

-- the plan is executed, and the cycle is over
abbrev pub after_execution : State → List PlanRow → State
after_execution s plan = record s { trades = thawed (executed plan s.trades); cycle = closed s.cycle.number s.cycle.version }

-- a posting that touches nobody is executed at once; any other is proposed
abbrev pub proposed_or_done : State → List SolutionData → List PlanRow → List ℕ → State
proposed_or_done s solutions plan [] = after_execution s plan
proposed_or_done s solutions plan (member ∷ members) = record s { cycle = proposed_with s.cycle solutions plan }

-- the state after a posting: its plan is proposed, or executed at once where it touches nobody
abbrev pub after_post : State → List SolutionData → State
after_post s solutions =
    proposed_or_done s solutions (posted_plan s.cycle s.trades solutions) (touched_in s (posted_plan s.cycle s.trades solutions))

-- a posting that touches nobody is told to change nothing; of any other the gross notional before and after is told
abbrev pub proposed_answer : State → List SolutionData → List ℕ → Answer
proposed_answer s solutions [] = Nothing s.cycle.number s.cycle.version
proposed_answer s solutions (member ∷ members) =
    Proposed s.cycle.number s.cycle.version (gross_of_all (old_networks s.cycle.begun)) (gross_of_all (new_networks solutions))

-- what a posting is answered, by the members that its plan touches
abbrev pub post_answer : State → List SolutionData → Answer
post_answer s solutions = proposed_answer s solutions (touched_in s (posted_plan s.cycle s.trades solutions))

-- the operator sees a whole plan, a member its own steps
abbrev pub shown_plan : State → List ℕ → ℕ → List PlanRow
shown_plan s by member = if is_operator s.roster by then s.cycle.plan else filter (is_in_step s.trades member) s.cycle.plan

-- the steps of the proposed plan that the party sees
abbrev pub plan_answer : State → List ℕ → ℕ → Answer
plan_answer s by member = PlanRows s.cycle.number s.cycle.version (shown_plan s by member)

-- what a member's PROOF is told of a version of this day and this mode; where the version begins is the desk's to tell
abbrev pub proof_on : Option DayParts → Option Mode → State → ℕ → Answer
proof_on (Some day) (Some mode) s member =
    ProofRows (record { cycle = s.cycle.number; version = s.cycle.version; day = day; mode = mode; begun = 0 }) (proof_rows s mode member)
proof_on day mode s member = No NotGreeted

-- a member is told what it needs to test its own part of the proposal
abbrev pub proof_answer : State → ℕ → Answer
proof_answer s member = proof_on s.cycle.day s.cycle.mode s member

-- the touched members that have not voted once this one has
abbrev pub left_after : State → ℕ → List ℕ
left_after s member = filter (λ voter. not (has_voted (member ∷ s.cycle.votes) voter)) (touched_in s s.cycle.plan)

-- an execution tells how many trades its plan ends, cuts and makes
abbrev pub executed_answer : Cycle → Answer
executed_answer cycle = Executed cycle.number cycle.version (count_of is_end cycle.plan) (count_of is_cut cycle.plan) (count_of is_new cycle.plan)

-- the last vote is told the execution, any other one how many are missing
abbrev pub vote_answer : Cycle → List ℕ → Answer
vote_answer cycle [] = executed_answer cycle
vote_answer cycle (member ∷ members) = Accepted cycle.number cycle.version (1 + length members)

-- what the vote of the member at this place is answered
abbrev pub accept_answer : State → ℕ → Answer
accept_answer s member = vote_answer s.cycle (left_after s member)

-- a vote; the last one executes the plan
abbrev pub after_vote : State → ℕ → List ℕ → State
after_vote s member [] = after_execution s s.cycle.plan
after_vote s member (voter ∷ voters) = record s { cycle = record s.cycle { votes = s.cycle.votes ++ member ∷ [] } }

-- the state after the vote of the member at this place
abbrev pub after_accept : State → ℕ → State
after_accept s member = after_vote s member (left_after s member)

-- the proposed plan is dropped
abbrev pub after_decline : State → State
after_decline s = record s { cycle = declined s.cycle }

-- the cycle is over, and no trade is frozen
abbrev pub after_cancel : State → State
after_cancel s = record s { trades = thawed s.trades; cycle = closed s.cycle.number s.cycle.version }

-- the trade is frozen, and the other party asked to end it before
abbrev pub is_frozen_and_marked : Option TradeRow → Bool
is_frozen_and_marked None = false
is_frozen_and_marked (Some row) = row.frozen && is_some row.mark

-- the end of a frozen trade breaks an open cycle that is not broken yet
abbrev pub cycle_after_end : Cycle → ℕ → Option TradeRow → Cycle
cycle_after_end cycle trade row = if may_break cycle.phase && is_frozen_and_marked row then broken_at cycle trade else cycle
