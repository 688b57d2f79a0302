use Rattle.tolerance_sets.proofs.PairLimits.{network_is_within}
use Rattle.tolerance_sets.proofs.laws.network_is_within.Goals as goal

pub returns : goal.returns
returns c = network_is_within
