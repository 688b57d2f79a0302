use Rattle.std.proofs.Common.{arith}
use Rattle.member_set.proofs.Parts.{member_small}
use Rattle.path_solver.proofs.layers.visit.Goals as goal

pub returns-clause-marked : goal.returns-clause-marked
returns-clause-marked c v on =
    c.loop-place.invariant.marked v on (omega (arith, member_small c.args.members v on, c.loop-place-test.false))

pub returns-clause-all : goal.returns-clause-all
returns-clause-all c h u on =
    c.loop-place.invariant.all h u on (omega (arith, member_small c.args.members h on, c.loop-place-test.false))
