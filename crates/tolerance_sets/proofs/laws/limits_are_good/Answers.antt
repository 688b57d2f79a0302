use Rattle.tolerance_sets.proofs.PairLimits.{limits_are_good}
use Rattle.tolerance_sets.proofs.laws.limits_are_good.Goals as goal

pub returns : goal.returns
returns c = limits_are_good
