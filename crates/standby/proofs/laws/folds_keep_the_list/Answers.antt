use Rattle.standby.proofs.LinkFacts.{folds_keep}
use Rattle.standby.proofs.laws.folds_keep_the_list.Goals as goal

pub returns : goal.returns
returns c = folds_keep
