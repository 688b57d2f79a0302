use Rattle.std.proofs.Common.{◌∙◌, All, ap, subst}
use Rattle.network_laws.specs.Solutions.{IsSolution}
use Rattle.command_types.specs.declared.ask.Entry.{Entry}
use Rattle.command_types.specs.declared.figures.State.{State}
use Rattle.command_types.specs.Machine.{state_after}
use Rattle.command_types.specs.History.{solutions_posted}
use Rattle.cycle_states.proofs.DecisionFacts.{change_before}
use Rattle.book_tests.proofs.Changes.{lead_none, lead_one}
use Rattle.book_tests.proofs.machine.open_cycles.makes.Goals as goal

pub returns-in-Told : goal.returns-in-Told
returns-in-Told c = lead_none 1 _ _ c.decide.ensures.state

pub commit-made-requires-clause-accepted : goal.commit-made-requires-clause-accepted
commit-made-requires-clause-accepted c = let decided = rw c.in-Ready.is at c.in_ok-decision.ensures.decides in decided.1.accepted

pub commit-made-requires-clause-young : goal.commit-made-requires-clause-young
commit-made-requires-clause-young c = rw c.decide.ensures.state c.requires

pub commit-made-requires-clause-ready : goal.commit-made-requires-clause-ready
commit-made-requires-clause-ready c = let decided = rw c.in-Ready.is at c.in_ok-decision.ensures.decides in decided.1.ready

pub commit-made-requires-clause-room : goal.commit-made-requires-clause-room
commit-made-requires-clause-room c = let decided = rw c.in-Ready.is at c.in_ok-decision.ensures.decides in decided.1.room

pub commit-made-requires-clause-slot : goal.commit-made-requires-clause-slot
commit-made-requires-clause-slot c = let decided = rw c.in-Ready.is at c.in_ok-decision.ensures.decides in decided.1.slot

pub returns : goal.returns
returns c =
    let s = c.args.machine.now.state in
    let decided = rw c.in-Ready.is at c.in_ok-decision.ensures.decides in
    lead_one s _ c.args.entry
    (c.commit-made.ensures.state ∙ ap (λ (t : State). state_after t c.in-Ready.ready.entry.ask) c.decide.ensures.state ∙ ap (λ (e : Entry). state_after s e.ask) decided.0)
    (change_before c.decide.new.self s c.args.entry c.in-Ready.ready c.decide.ensures.state decided.0 decided.1)
    (subst (λ (e : Entry). All IsSolution (solutions_posted e.ask.what)) decided.0 decided.1.ready.solutions)
