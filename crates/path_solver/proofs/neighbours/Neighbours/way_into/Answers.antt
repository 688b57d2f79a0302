use Rattle.std.proofs.Common.{arith}
use Rattle.member_set.proofs.Parts.{member_small}
use Rattle.path_solver.proofs.neighbours.Neighbours.way_into.Goals as goal

pub returns-clause-none : goal.returns-clause-none
returns-clause-none c _ u on =
    c.loop-place.invariant.none u on (omega (arith, member_small c.args.set.now u on, c.loop-place-test.false))
