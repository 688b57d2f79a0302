use Rattle.std.proofs.Common.{◌≡◌, drop}
use Rattle.period_roll.specs.Trades.{first_late}
use Rattle.period_roll.proofs.keeping.first_late.Given as goal

abbrev pub invariant-loop-row : goal.invariant-loop-row
invariant-loop-row l = first_late l.products (drop l.row-index l.rows) ≡ first_late l.products l.rows
