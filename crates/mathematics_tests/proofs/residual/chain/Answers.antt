use Rattle.std.proofs.Common.{◌≡◌, ap, arith}
use Rattle.network_laws.specs.Networks.{total}
use Rattle.cycle_cancel.proofs.Certify.{amount_le}
use Rattle.mathematics_tests.proofs.residual.chain.Goals as goal

pub of-requires-clause-capped : goal.of-requires-clause-capped
of-requires-clause-capped c i j li lj e =
    omega (arith, amount_le c.network.result.now.rows i j, ap (λ y. total y.rows) c.network.ensures.value, c.network.ensures.problem.network.rows.within, c.requires)
