use Rattle.cycle_states.proofs.DecisionFacts.{refused_changes_nothing}
use Rattle.cycle_states.proofs.machine.Machine.decide.Goals as goal

pub returns-in-Some-clause-decides : goal.returns-in-Some-clause-decides
returns-in-Some-clause-decides c = refused_changes_nothing c.keep_problems.new.self c.args.entry c.in-Some.refusal (rw c.in-Some.is at c.in_ok-refusal.ensures.refused)
