use Rattle.std.proofs.Common.{length, IsTrue, sym, subst}
use Rattle.command_types.specs.Cycles.{is_proposed}
use Rattle.command_types.specs.Machine.{state_by_party}
use Rattle.acceptance.specs.Parties.{IsPlanBelow}
use Rattle.cycle_states.specs.declared.machine.ballot.Ballot.{Ballot}
use Rattle.cycle_states.specs.Ballot.{IsBallotIn}
use Rattle.cycle_states.specs.Machine.{state_with, MachineView}
use Rattle.cycle_states.proofs.BallotFacts.{ballot_stays}
use Rattle.cycle_states.proofs.SettledFacts.{proposal_settled}
use Rattle.cycle_states.proofs.machine.Machine.same_ballot.Goals as goal

pub returns : goal.returns
returns c =
    let m = c.self.inside in
    let s = state_with m.roster m.book.rows m.tolerances.settings m.cycle in
    let below : IsTrue (is_proposed m.cycle.phase) → IsPlanBelow m.book.rows (length m.roster.members) m.cycle.plan =
    λ on. (proposal_settled m.roster m.book.members m.book.products m.book.rows m.cycle c.self.invariant.0 on c.rows-rows.ensures.trades c.rows-rows.ensures.bounded).parties in
    let stays = ballot_stays s c.args.caller.now.name c.args.what.now m.ballot c.requires below c.self.invariant.1 in
    subst (λ (view : MachineView). IsBallotIn (state_by_party view.state c.args.caller.now.name c.args.what.now) c.copy.result) c.self.view_is
    (subst (λ (b : Ballot). IsBallotIn (state_by_party s c.args.caller.now.name c.args.what.now) b) (sym c.copy.ensures) stays)
