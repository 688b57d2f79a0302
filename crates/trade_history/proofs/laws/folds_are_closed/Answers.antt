use Rattle.trade_history.proofs.Folds.{folds_are_closed}
use Rattle.trade_history.proofs.laws.folds_are_closed.Goals as goal

pub returns : goal.returns
returns c = folds_are_closed
