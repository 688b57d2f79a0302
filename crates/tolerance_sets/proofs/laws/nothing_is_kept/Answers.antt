use Rattle.tolerance_sets.proofs.ModeLaws.{nothing_is_kept}
use Rattle.tolerance_sets.proofs.laws.nothing_is_kept.Goals as goal

pub returns : goal.returns
returns c = nothing_is_kept
