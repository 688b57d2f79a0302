use Rattle.std.proofs.Common.{length, ap, arith}
use Rattle.path_solver.proofs.Numbers.{number_small}
use Rattle.path_solver.proofs.neighbours.numbers_of.Goals as goal

pub overflow_cast-number : goal.overflow_cast-number
overflow_cast-number c =
    omega (arith, number_small c.args.residual.now c.flows-flows.ensures.residual c.loop-number.number (omega (arith, c.loop-number-test.true, ap length c.flows-flows.ensures.value)))
