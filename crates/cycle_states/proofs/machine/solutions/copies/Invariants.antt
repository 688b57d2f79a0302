use Rattle.std.proofs.Common.{◌≡◌, take}
use Rattle.cycle_states.proofs.machine.solutions.copies.Given as goal

abbrev pub invariant-loop-solution : goal.invariant-loop-solution
invariant-loop-solution l = l.copies.items ≡ take l.solution-index l.solutions
