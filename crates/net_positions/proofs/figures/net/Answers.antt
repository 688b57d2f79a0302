use Rattle.std.proofs.Common.{arith}
use Rattle.std.proofs.lemmas.Int.{ints}
use Rattle.net_positions.proofs.Totals.{sold_in-le, bought_in-le}
use Rattle.net_positions.proofs.figures.net.Goals as goal

pub overflow_cast-result : goal.overflow_cast-result
overflow_cast-result c =
    let e = c.positions_of-positions.ensures in
    omega (arith, e.totals.sold_each c.args.member (omega (arith, e.network.few, c.requires)), sold_in-le c.args.network.now.rows c.args.member, e.network.rows.within)

pub overflow_cast-result-2 : goal.overflow_cast-result-2
overflow_cast-result-2 c =
    let e = c.positions_of-positions.ensures in
    omega (arith, e.totals.bought_each c.args.member (omega (arith, e.network.few, c.requires)), bought_in-le c.args.network.now.rows c.args.member, e.network.rows.within)

pub overflow_sub-result : goal.overflow_sub-result
overflow_sub-result c =
    let e = c.positions_of-positions.ensures in
    let m = c.args.member in
    let rows = c.args.network.now.rows in
    omega (arith, ints, e.totals.sold_each m (omega (arith, e.network.few, c.requires)), sold_in-le rows m, e.totals.bought_each m (omega (arith, e.network.few, c.requires)), bought_in-le rows m, e.network.rows.within)

pub returns : goal.returns
returns c =
    let e = c.positions_of-positions.ensures in
    let m = c.args.member in
    let rows = c.args.network.now.rows in
    omega (arith, ints, e.totals.sold_each m (omega (arith, e.network.few, c.requires)), sold_in-le rows m, e.totals.bought_each m (omega (arith, e.network.few, c.requires)), bought_in-le rows m, e.network.rows.within)
