use Rattle.std.proofs.Common.{◌≡◌, take}
use Rattle.command_types.specs.Trades.{submitted_count}
use Rattle.base_fitting.proofs.trades.submitted_among.Given as goal

abbrev pub invariant-loop-row : goal.invariant-loop-row
invariant-loop-row l = l.count ≡ submitted_count (take l.row-index l.rows)
