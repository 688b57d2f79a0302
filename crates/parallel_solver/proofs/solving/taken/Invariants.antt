use Rattle.std.proofs.Common.{◌≡◌, ◌++◌, length}
use Rattle.parallel_solver.proofs.solving.taken.Given as goal

abbrev pub invariant-loop : goal.invariant-loop
invariant-loop l = record {
  size : length l.own.items ≡ l.counter;
  rest : l.own.items ++ l.solutions.rest.items ≡ l.initial.solutions.rest.items;
}
