use Rattle.cycle_states.proofs.DecisionFacts.{nothing_recorded, ready_in, rows_fit, settings_fit}
use Rattle.cycle_states.proofs.machine.Machine.prepare.Goals as goal

pub unreachable-requires : goal.unreachable-requires
unreachable-requires c =
    let decided = rw c.in-Told.is at c.in_ok-decision.ensures.decides in
    nothing_recorded c.decide.new.self c.args.self.now.state c.args.entry c.in-Told.field-0 c.decide.ensures.state decided c.requires.accepted

pub returns-clause-entry : goal.returns-clause-entry
returns-clause-entry c = let decided = rw c.in-Ready.is at c.in_ok-decision.ensures.decides in decided.0

pub returns-clause-ready : goal.returns-clause-ready
returns-clause-ready c =
    let decided = rw c.in-Ready.is at c.in_ok-decision.ensures.decides in
    ready_in c.decide.new.self c.args.self.now.state c.args.entry c.in-Ready.ready c.decide.ensures.state decided.0 decided.1

pub returns-clause-room : goal.returns-clause-room
returns-clause-room c =
    let decided = rw c.in-Ready.is at c.in_ok-decision.ensures.decides in
    rows_fit c.decide.new.self c.args.self.now.state c.args.entry c.in-Ready.ready c.decide.ensures.state decided.0 decided.1

pub returns-clause-slot : goal.returns-clause-slot
returns-clause-slot c =
    let decided = rw c.in-Ready.is at c.in_ok-decision.ensures.decides in
    settings_fit c.decide.new.self c.args.self.now.state c.args.entry c.in-Ready.ready c.decide.ensures.state decided.0 decided.1
