use Rattle.std.proofs.Common.{arith}
use Rattle.member_set.proofs.Parts.{member_small}
use Rattle.path_solver.proofs.outside.around.Goals as goal

pub returns-clause-all : goal.returns-clause-all
returns-clause-all c h u on =
    c.loop-place.invariant.all h u on (omega (arith, member_small c.args.set.now h on, c.loop-place-test.false))
