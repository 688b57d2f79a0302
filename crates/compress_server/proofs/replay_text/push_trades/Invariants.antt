use Rattle.std.proofs.Common.{◌≡◌, ◌++◌, take}
use Rattle.command_types.specs.Details.{lines_text, trade_line}
use Rattle.compress_server.proofs.replay_text.push_trades.Given as goal

abbrev pub invariant-loop-row : goal.invariant-loop-row
invariant-loop-row l = l.text.items ≡ l.fn.text.items ++ lines_text (trade_line l.fn.roster) (take l.row-index l.rows)
