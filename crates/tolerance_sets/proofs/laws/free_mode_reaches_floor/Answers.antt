use Rattle.tolerance_sets.proofs.ModeLaws.{free_mode_reaches_floor}
use Rattle.tolerance_sets.proofs.laws.free_mode_reaches_floor.Goals as goal

pub returns : goal.returns
returns c = free_mode_reaches_floor
