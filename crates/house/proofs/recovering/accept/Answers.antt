use Rattle.std.proofs.Common.{◌∙◌, All, ap, inl, refl, subst}
use Rattle.network_laws.specs.Solutions.{IsSolution}
use Rattle.command_types.specs.declared.ask.Entry.{Entry}
use Rattle.command_types.specs.declared.figures.State.{State}
use Rattle.command_types.specs.Machine.{answer_to, state_after}
use Rattle.command_types.specs.History.{solutions_posted}
use Rattle.cycle_states.proofs.DecisionFacts.{change_before, nothing_recorded}
use Rattle.house.proofs.recovering.accept.Goals as goal

pub returns-in-Told-clause-fault : goal.returns-in-Told-clause-fault
returns-in-Told-clause-fault c =
    let decided = rw c.in-Told.is at c.in_ok-decision.ensures.decides in
    inl ((λ accepted. nothing_recorded c.decide.new.self c.args.machine.now.state c.args.item.entry c.in-Told.field-0 c.decide.ensures.state decided accepted.0), refl)

pub commit-requires-clause-accepted : goal.commit-requires-clause-accepted
commit-requires-clause-accepted c = let decided = rw c.in-Ready.is at c.in_ok-decision.ensures.decides in decided.1.accepted

pub commit-requires-clause-young : goal.commit-requires-clause-young
commit-requires-clause-young c = rw c.decide.ensures.state c.requires

pub commit-requires-clause-ready : goal.commit-requires-clause-ready
commit-requires-clause-ready c = let decided = rw c.in-Ready.is at c.in_ok-decision.ensures.decides in decided.1.ready

pub commit-requires-clause-room : goal.commit-requires-clause-room
commit-requires-clause-room c = let decided = rw c.in-Ready.is at c.in_ok-decision.ensures.decides in decided.1.room

pub commit-requires-clause-slot : goal.commit-requires-clause-slot
commit-requires-clause-slot c = let decided = rw c.in-Ready.is at c.in_ok-decision.ensures.decides in decided.1.slot

pub returns-clause-entry : goal.returns-clause-entry
returns-clause-entry c = let decided = rw c.in-Ready.is at c.in_ok-decision.ensures.decides in c.commit.ensures.entry ∙ decided.0

pub returns-clause-answer : goal.returns-clause-answer
returns-clause-answer c =
    let decided = rw c.in-Ready.is at c.in_ok-decision.ensures.decides in
    c.commit.ensures.answer
    ∙ ap (λ (s : State). answer_to s c.in-Ready.ready.entry.ask) c.decide.ensures.state
    ∙ ap (λ (e : Entry). answer_to c.args.machine.now.state e.ask) decided.0

pub returns-clause-accepted : goal.returns-clause-accepted
returns-clause-accepted c =
    let decided = rw c.in-Ready.is at c.in_ok-decision.ensures.decides in (
      change_before c.decide.new.self c.args.machine.now.state c.args.item.entry c.in-Ready.ready c.decide.ensures.state decided.0 decided.1,
      subst (λ (e : Entry). All IsSolution (solutions_posted e.ask.what)) decided.0 decided.1.ready.solutions,
    )

pub returns-clause-state : goal.returns-clause-state
returns-clause-state c =
    let decided = rw c.in-Ready.is at c.in_ok-decision.ensures.decides in
    c.commit.ensures.state
    ∙ ap (λ (s : State). state_after s c.in-Ready.ready.entry.ask) c.decide.ensures.state
    ∙ ap (λ (e : Entry). state_after c.args.machine.now.state e.ask) decided.0
