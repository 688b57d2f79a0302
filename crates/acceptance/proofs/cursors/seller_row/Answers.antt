use Rattle.std.proofs.Common.{◌*◌, ◌<◌, ◌≤◌, get_or, arith}
use Rattle.network_laws.specs.declared.rows.Row.{Row}
use Rattle.network_laws.specs.Networks.{place}
use Rattle.acceptance.proofs.RowCursors.{one_before, first_behind}
use Rattle.acceptance.proofs.cursors.seller_row.Goals as goal

pub loop-at-preserved : goal.loop-at-preserved
loop-at-preserved c =
    let none : Row = record { seller = 0; buyer = 0; amount = 0 } in
    let here : place (get_or c.args.rows.now c.loop-at.at none) < c.args.seller * 65536 = omega (arith, c.if-place_of-wanted.true, c.place_of.ensures) in
    one_before c.args.rows.now c.loop-at.at (c.args.seller * 65536) none c.loop-at-test.true here c.loop-at.invariant

pub returns-else-place_of-wanted-clause-cursor : goal.returns-else-place_of-wanted-clause-cursor
returns-else-place_of-wanted-clause-cursor c =
    let none : Row = record { seller = 0; buyer = 0; amount = 0 } in
    let here : c.args.seller * 65536 ≤ place (get_or c.args.rows.now c.loop-at.at none) = omega (arith, c.if-place_of-wanted.false, c.place_of.ensures) in
    first_behind c.args.rows.now c.loop-at.at (c.args.seller * 65536) none c.loop-at-test.true c.requires.rising here c.loop-at.invariant
