use Rattle.std.proofs.Common.{◌≡◌, ◌++◌, length, take}
use Rattle.network_laws.specs.Solved.{AreSolved}
use Rattle.parallel_solver.proofs.found.collected.Given as goal

abbrev pub invariant-loop-slot : goal.invariant-loop-slot
invariant-loop-slot l = record {
  order : l.yielded ++ l.slot-iterator.rest.items ≡ l.fn.found.items;
  solved : AreSolved (take (length l.yielded) l.pieces) l.solutions.items;
}
