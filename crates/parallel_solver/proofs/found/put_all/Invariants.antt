use Rattle.std.proofs.Common.{vec_len}
use Rattle.std.specs.Prelude.{All}
use Rattle.parallel_solver.specs.Jobs.{IsRight, AreRight}
use Rattle.parallel_solver.proofs.Rights.{Left}
use Rattle.parallel_solver.proofs.found.put_all.Given as goal

abbrev pub invariant-loop-one : goal.invariant-loop-one
invariant-loop-one l = AreRight l.pieces l.found × All (IsRight l.pieces) l.done.items × Left l.initial.found l.fn.done.items l.found l.done.items

abbrev pub decreases-loop-one : goal.decreases-loop-one
decreases-loop-one l = vec_len l.done
