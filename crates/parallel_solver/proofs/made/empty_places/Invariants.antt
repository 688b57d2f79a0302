use Rattle.std.proofs.Common.{◌≡◌, vec_len}
use Rattle.parallel_solver.proofs.made.empty_places.Given as goal

abbrev pub invariant-loop : goal.invariant-loop
invariant-loop g l = vec_len l.found ≡ l.counter
