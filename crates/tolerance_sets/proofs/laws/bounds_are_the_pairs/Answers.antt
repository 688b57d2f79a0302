use Rattle.tolerance_sets.proofs.PairLimits.{bounds_are_the_pairs}
use Rattle.tolerance_sets.proofs.laws.bounds_are_the_pairs.Goals as goal

pub returns : goal.returns
returns c = bounds_are_the_pairs
