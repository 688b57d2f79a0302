use Rattle.std.proofs.Common.{◌≡◌, ◌++◌, Some, map}
use Rattle.parallel_solver.proofs.made.all_found.Given as goal

abbrev pub invariant-loop-slot : goal.invariant-loop-slot
invariant-loop-slot g l = map Some l.made.items ++ l.slot-iterator.rest.items ≡ l.fn.found.items
