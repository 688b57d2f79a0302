use Rattle.trade_history.proofs.Folds.{folds_go_on}
use Rattle.trade_history.proofs.laws.folds_go_on.Goals as goal

pub returns : goal.returns
returns c = folds_go_on
