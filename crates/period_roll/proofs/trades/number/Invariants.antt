use Rattle.std.proofs.Common.{◌≡◌, ◌++◌, take, drop}
use Rattle.period_roll.specs.Trades.{numbered_from}
use Rattle.period_roll.proofs.trades.number.Given as goal

abbrev pub invariant-loop-row : goal.invariant-loop-row
invariant-loop-row l = record {
  rows : l.rows ≡ numbered_from 1 (take l.row-index l.initial.rows) ++ drop l.row-index l.initial.rows;
  count : l.count ≡ l.row-index;
}
