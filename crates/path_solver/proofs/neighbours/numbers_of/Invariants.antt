use Rattle.path_solver.specs.Neighbours.{AreNumbersTo}
use Rattle.path_solver.proofs.neighbours.numbers_of.Given as goal

abbrev pub invariant-loop-number : goal.invariant-loop-number
invariant-loop-number l = AreNumbersTo l.number l.residual l.rows.items
