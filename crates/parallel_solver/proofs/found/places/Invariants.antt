use Rattle.parallel_solver.proofs.Rights.{AreEmpty}
use Rattle.parallel_solver.proofs.found.places.Given as goal

abbrev pub invariant-loop : goal.invariant-loop
invariant-loop l = AreEmpty l.found.items l.counter
