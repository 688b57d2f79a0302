use Rattle.trade_history.proofs.Sessions.{sessions_stay_in_folds}
use Rattle.trade_history.proofs.laws.sessions_stay_in_folds.Goals as goal

pub returns : goal.returns
returns c = sessions_stay_in_folds
