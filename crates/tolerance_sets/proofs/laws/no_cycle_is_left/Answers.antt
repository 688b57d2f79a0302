use Rattle.tolerance_sets.proofs.ModeLaws.{no_cycle_is_left}
use Rattle.tolerance_sets.proofs.laws.no_cycle_is_left.Goals as goal

pub returns : goal.returns
returns c = no_cycle_is_left
