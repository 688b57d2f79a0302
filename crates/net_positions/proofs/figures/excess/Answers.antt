use Rattle.std.proofs.Common.{arith, ap}
use Rattle.network_laws.specs.Networks.{sum_below}
use Rattle.net_positions.specs.Tables.{positive_at}
use Rattle.net_positions.proofs.Totals.{positive_sum-is, floor_m-within}
use Rattle.net_positions.proofs.figures.excess.Goals as goal

pub positive_sum-requires-clause-fits : goal.positive_sum-requires-clause-fits
positive_sum-requires-clause-fits c =
    let y = c.args.network.now in
    let p = c.positions_of-positions.result in
    let is = positive_sum-is y p.sold p.bought c.positions_of-positions.ensures.totals c.members.ensures.network.few in
    omega (arith, ap (λ n. sum_below n (positive_at p.sold p.bought)) c.members.ensures.value, is, floor_m-within y, c.members.ensures.network.rows.within)

pub overflow_sub-result : goal.overflow_sub-result
overflow_sub-result c =
    let y = c.args.network.now in
    let p = c.positions_of-positions.result in
    let is = positive_sum-is y p.sold p.bought c.positions_of-positions.ensures.totals c.members.ensures.network.few in
    omega (arith, c.positive_sum.ensures, ap (λ n. sum_below n (positive_at p.sold p.bought)) c.members.ensures.value, is, floor_m-within y, c.positions_of-positions.ensures.gross)

pub returns : goal.returns
returns c =
    let y = c.args.network.now in
    let p = c.positions_of-positions.result in
    let is = positive_sum-is y p.sold p.bought c.positions_of-positions.ensures.totals c.members.ensures.network.few in
    omega (arith, c.positive_sum.ensures, ap (λ n. sum_below n (positive_at p.sold p.bought)) c.members.ensures.value, is, c.positions_of-positions.ensures.gross)
