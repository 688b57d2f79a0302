use Rattle.std.proofs.Common.{◌≡◌, take}
use Rattle.std.specs.Prelude.{filter}
use Rattle.acceptance.specs.Planning.{is_free}
use Rattle.acceptance.proofs.free_trades.FreeTrades.of.Given as goal

abbrev pub invariant-loop-row : goal.invariant-loop-row
invariant-loop-row l = l.rows.items ≡ filter is_free (take l.row-index l.trades)
