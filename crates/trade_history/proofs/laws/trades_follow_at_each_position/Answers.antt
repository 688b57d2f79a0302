use Rattle.trade_history.proofs.Positions.{trades_follow_at_each_position}
use Rattle.trade_history.proofs.laws.trades_follow_at_each_position.Goals as goal

pub returns : goal.returns
returns c = trades_follow_at_each_position
