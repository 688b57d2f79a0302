use Rattle.command_types.specs.Details.{trade_line}
use Rattle.compress_server.proofs.ReplayFacts.{lines_more}
use Rattle.compress_server.proofs.replay_text.push_trades.Goals as goal

pub loop-row-preserved : goal.loop-row-preserved
loop-row-preserved c =
    lines_more (trade_line c.args.roster.now) c.args.rows.now c.loop-row.row-index c.row-item.result c.args.text.now.items c.loop-row.text.items c.push_row.new.text.items c.loop-row-test.true c.row-item.is c.loop-row.invariant
    c.in_ok-push_row.ensures
