use Rattle.trade_history.proofs.Replay.{trades_are_the_historys}
use Rattle.trade_history.proofs.laws.trades_are_the_historys.Goals as goal

pub returns : goal.returns
returns c = trades_are_the_historys
