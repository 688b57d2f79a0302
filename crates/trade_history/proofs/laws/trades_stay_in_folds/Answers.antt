use Rattle.trade_history.proofs.Folds.{trades_stay_in_folds}
use Rattle.trade_history.proofs.laws.trades_stay_in_folds.Goals as goal

pub returns : goal.returns
returns c = trades_stay_in_folds
