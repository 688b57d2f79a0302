use Rattle.trade_history.proofs.Positions.{positions_are_changes}
use Rattle.trade_history.proofs.laws.positions_are_changes.Goals as goal

pub returns : goal.returns
returns c = positions_are_changes
