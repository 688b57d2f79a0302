use Rattle.std.proofs.Common.{get_or, arith}
use Rattle.std.proofs.lemmas.List.Sums.{sum_by_more}
use Rattle.network_laws.specs.declared.rows.Row.{Row}
use Rattle.net_positions.proofs.Totals.{totals_more, sold_fits, bought_fits}
use Rattle.net_positions.proofs.positions.add_rows.Goals as goal

pub overflow_add-sold : goal.overflow_add-sold
overflow_add-sold c =
    let rows = c.args.rows.now in
    let k = c.loop-row.row-index in
    let d : Row = record { seller = 0; buyer = 0; amount = 0 } in
    let s = (get_or rows k d).seller in
    omega (arith, sold_fits rows k s d c.loop-row-test.true, c.loop-row.invariant.1.sold_each s (omega (arith, (c.requires.rows.good k d c.loop-row-test.true).seller, c.requires.few)), c.requires.rows.within)

pub overflow_add-bought : goal.overflow_add-bought
overflow_add-bought c =
    let rows = c.args.rows.now in
    let k = c.loop-row.row-index in
    let d : Row = record { seller = 0; buyer = 0; amount = 0 } in
    let b = (get_or rows k d).buyer in
    omega (arith, bought_fits rows k b d c.loop-row-test.true, c.loop-row.invariant.1.bought_each b (omega (arith, (c.requires.rows.good k d c.loop-row-test.true).buyer, c.requires.few)), c.requires.rows.within)

pub loop-row-preserved : goal.loop-row-preserved
loop-row-preserved c =
    let rows = c.args.rows.now in
    let k = c.loop-row.row-index in
    let d : Row = record { seller = 0; buyer = 0; amount = 0 } in
    let good = c.requires.rows.good k d c.loop-row-test.true in
    (omega (arith, sum_by_more (λ (r : Row). r.amount) rows k d c.loop-row-test.true), totals_more rows k d c.loop-row.sold c.loop-row.bought c.loop-row-test.true c.loop-row.invariant.1 (omega (arith, good.seller, c.requires.few)) (omega (arith, good.buyer, c.requires.few)))
