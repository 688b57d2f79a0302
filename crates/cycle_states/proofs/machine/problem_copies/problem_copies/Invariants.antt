use Rattle.std.proofs.Common.{◌≡◌, take}
use Rattle.cycle_states.proofs.machine.problem_copies.problem_copies.Given as goal

abbrev pub invariant-loop-problem : goal.invariant-loop-problem
invariant-loop-problem l = l.copies.items ≡ take l.problem-index l.problems
