use Rattle.tolerance_sets.proofs.PairLimits.{held_is_kept}
use Rattle.tolerance_sets.proofs.laws.held_is_kept.Goals as goal

pub returns : goal.returns
returns c = held_is_kept
