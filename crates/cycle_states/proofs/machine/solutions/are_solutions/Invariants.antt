use Rattle.std.proofs.Common.{take, All}
use Rattle.network_laws.specs.Solutions.{IsSolution}
use Rattle.cycle_states.proofs.machine.solutions.are_solutions.Given as goal

abbrev pub invariant-loop-solution : goal.invariant-loop-solution
invariant-loop-solution l = All IsSolution (take l.solution-index l.solutions)
