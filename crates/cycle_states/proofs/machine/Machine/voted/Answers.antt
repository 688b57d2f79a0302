use Rattle.std.proofs.Common.{◌∙◌, ◌<◌, length, IsTrue, refl, ap, subst}
use Rattle.command_types.specs.Cycles.{is_proposed}
use Rattle.command_types.specs.CycleSteps.{after_accept, left_after}
use Rattle.command_types.specs.Execution.{IsExecutable}
use Rattle.command_types.specs.Plans.{is_touched}
use Rattle.posting.proofs.VoteFacts.{votes_left}
use Rattle.cycle_states.specs.Ballot.{IsBallotIn}
use Rattle.cycle_states.specs.Machine.{state_with, MachineView}
use Rattle.cycle_states.proofs.BallotFacts.{vote_room, voted_ballot}
use Rattle.cycle_states.proofs.SettledFacts.{proposal_settled}
use Rattle.cycle_states.proofs.machine.Machine.voted.Goals as goal

pub returns-clause-ballot : goal.returns-clause-ballot
returns-clause-ballot c = λ waits.
    let m = c.self.inside in
    let s = state_with m.roster m.book.rows m.tolerances.settings m.cycle in
    let on : IsTrue (is_proposed m.cycle.phase) = rw (← c.self.view_is) at c.requires in
    let next = c.once_voted-ballot.ensures in
    subst (λ (view : MachineView). IsBallotIn (after_accept view.state c.args.member) c.once_voted-ballot.result) c.self.view_is
    (voted_ballot s c.args.member (left_after s c.args.member) m.ballot c.once_voted-ballot.result (rw (← c.self.view_is) at waits) on c.self.invariant.1 next.needed next.voted next.made)

pub returns-clause-room : goal.returns-clause-room
returns-clause-room c = λ waits.
    let m = c.self.inside in
    let s = state_with m.roster m.book.rows m.tolerances.settings m.cycle in
    let on : IsTrue (is_proposed m.cycle.phase) = rw (← c.self.view_is) at c.requires in
    subst (λ (view : MachineView). length view.state.cycle.votes < 256) c.self.view_is (vote_room s c.args.member m.ballot on c.self.invariant.1 (rw (← c.self.view_is) at waits))

pub returns-clause-left : goal.returns-clause-left
returns-clause-left c =
    let m = c.self.inside in
    let on : IsTrue (is_proposed m.cycle.phase) = rw (← c.self.view_is) at c.requires in
    let next = c.once_voted-ballot.ensures in
    let votes = m.ballot.votes in
    let after = c.once_voted-ballot.result.votes in
    votes_left c.left-left.result (length m.roster.members) c.args.member (is_touched m.book.rows m.cycle.plan) m.cycle.votes m.cycle.votes votes.needed votes.needed after.needed votes.accepted after.accepted
    c.self.invariant.0.few_members (c.self.invariant.1.needed on) refl next.needed refl (c.self.invariant.1.voted on) next.voted c.left-left.ensures
    ∙ ap (λ (view : MachineView). length (left_after view.state c.args.member)) c.self.view_is

pub returns-clause-executable : goal.returns-clause-executable
returns-clause-executable c =
    let m = c.self.inside in
    let on : IsTrue (is_proposed m.cycle.phase) = rw (← c.self.view_is) at c.requires in
    let settled = proposal_settled m.roster m.book.members m.book.products m.book.rows m.cycle c.self.invariant.0 on c.rows-rows.ensures.trades c.rows-rows.ensures.bounded in
    subst (λ (view : MachineView). IsExecutable (length view.state.roster.members) (length view.state.roster.products) view.state.trades view.state.cycle.plan) c.self.view_is settled.executable
