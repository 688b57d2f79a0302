use Rattle.std.proofs.Common.{◌≡◌, drop, filter}
use Rattle.period_roll.specs.Trades.{is_kept, moved_trades}
use Rattle.period_roll.proofs.Loops.{of_rest}
use Rattle.period_roll.proofs.trades.moved_trades.Given as goal

abbrev pub invariant-loop-row : goal.invariant-loop-row
invariant-loop-row l = of_rest l.old l.new (is_kept l.old l.matured) l.made.items (drop l.row-index l.rows) ≡ moved_trades l.old l.new (filter (is_kept l.old l.matured) l.rows)
