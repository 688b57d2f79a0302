use Rattle.std.proofs.Common.{◌∙◌}
use Rattle.cycle_states.proofs.machine.problems.problem_now.Goals as goal

pub problem_with-requires-clause-frozen : goal.problem_with-requires-clause-frozen
problem_with-requires-clause-frozen c = c.in-Some.ensures.1 ∙ c.requires.kept c.args.product c.in-Some.kept.now c.in-Some.ensures.3.0
