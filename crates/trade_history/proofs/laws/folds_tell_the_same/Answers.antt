use Rattle.trade_history.proofs.Telling.{folds_tell_the_same}
use Rattle.trade_history.proofs.laws.folds_tell_the_same.Goals as goal

pub returns : goal.returns
returns c = folds_tell_the_same
