-- What a machine keeps of its proposal beside the cycle.
use Rattle.std.specs.Prelude.{◌≡◌, ℕ, ◌+◌, ◌<◌, ◌≤◌, not, List, length, filter, IsTrue, IsFalse, if◌then◌else◌}
use Rattle.command_types.specs.declared.figures.Cycle.{Cycle}
use Rattle.command_types.specs.declared.figures.State.{State}
use Rattle.command_types.specs.declared.trade.TradeRow.{TradeRow}
use Rattle.command_types.specs.CycleRefusals.{has_voted}
use Rattle.command_types.specs.Cycles.{is_proposed}
use Rattle.command_types.specs.Plans.{count_of, is_new, touched_by}
use Rattle.units_core.specs.declared.limits.TheConstants.{MOST_MEMBERS}
use Rattle.cycle_states.specs.declared.machine.ballot.Ballot.{Ballot}

-- how many trades the proposed plan makes
abbrev pub planned_rows : Cycle → ℕ
planned_rows cycle = if is_proposed cycle.phase then count_of is_new cycle.plan else 0

-- those of the members that have not voted
abbrev pub waiting : List ℕ → List ℕ → List ℕ
waiting votes members = filter (λ member. not (has_voted votes member)) members

-- While a plan is proposed, the ballot needs the votes of the members that it touches, those of them have voted of whom the cycle
-- says so, and it tells how many trades the plan makes; and for those that have not voted, the votes have room.
pub record IsBallot (members : ℕ) (rows : List TradeRow) (cycle : Cycle) (ballot : Ballot) : Type 0 where
  pub needed : IsTrue (is_proposed cycle.phase) → ballot.votes.needed ≡ touched_by members rows cycle.plan
  pub voted : IsTrue (is_proposed cycle.phase) → (m : ℕ) → m < MOST_MEMBERS → IsTrue (has_voted ballot.votes.needed m) → has_voted ballot.votes.accepted m ≡ has_voted cycle.votes m
  pub made : IsTrue (is_proposed cycle.phase) → ballot.made ≡ count_of is_new cycle.plan
  pub room : IsTrue (is_proposed cycle.phase) → length cycle.votes + length (waiting cycle.votes ballot.votes.needed) ≤ MOST_MEMBERS

-- the proposed plan waits for the vote of the member at this place
pub record MayVote (s : State) (member : ℕ) : Type 0 where
  pub touched : IsTrue (has_voted (touched_by (length s.roster.members) s.trades s.cycle.plan) member)
  pub first : IsFalse (has_voted s.cycle.votes member)

-- it is the ballot of this state
abbrev pub IsBallotIn : State → Ballot → Type 0
IsBallotIn s ballot = IsBallot (length s.roster.members) s.trades s.cycle ballot
