use Rattle.trade_history.proofs.Folds.{executions_stay_in_folds}
use Rattle.trade_history.proofs.laws.executions_stay_in_folds.Goals as goal

pub returns : goal.returns
returns c = executions_stay_in_folds
