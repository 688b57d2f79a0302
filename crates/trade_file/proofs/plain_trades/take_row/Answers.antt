use Rattle.trade_file.specs.TradeDraft.{trades_of_draft}
use Rattle.trade_file.proofs.PieceFacts.{put_last}
use Rattle.trade_file.proofs.plain_trades.take_row.Goals as goal

pub returns-in-Ok-clause-taken : goal.returns-in-Ok-clause-taken
returns-in-Ok-clause-taken c = record {
  trade = c.in-Some.row.trade;
  reads = record { trade_is = c.in-Some.ensures.trade; product = c.in-Some.ensures.product };
  all_are = put_last 0 (trades_of_draft c.args.draft.now) (trades_of_draft c.add.new.self) c.in-Some.row.trade c.in-Ok.ensures.1;
}
