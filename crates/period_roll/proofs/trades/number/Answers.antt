use Rattle.std.proofs.Common.{◌+◌, arith}
use Rattle.period_roll.proofs.Loops.{numbers_one}
use Rattle.period_roll.proofs.trades.number.Goals as goal

pub loop-row-preserved : goal.loop-row-preserved
loop-row-preserved c = record {
  rows = numbers_one c.args.rows.now c.loop-row.rows c.loop-row.row-index (c.loop-row.count + 1) c.row-item.result c.loop-row-test.true (omega arith) c.loop-row.invariant.rows c.row-item.is;
  count = omega arith;
}
