use Rattle.trade_file.specs.RosterFile.{records_of}
use Rattle.trade_file.specs.TradeDraft.{trades_of_draft}
use Rattle.trade_file.proofs.GivenFacts.{given}
use Rattle.trade_file.proofs.trades.read_trades.Goals as goal

pub returns-in-Ok-clause-within : goal.returns-in-Ok-clause-within
returns-in-Ok-clause-within g c =
    rw c.into_trades.ensures (given c.args.roster.now (records_of c.args.bytes.now) (trades_of_draft c.in-Ok.draft) c.in-Ok.ensures.trades)
