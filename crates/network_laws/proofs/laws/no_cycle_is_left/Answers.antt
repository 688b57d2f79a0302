use Rattle.network_laws.proofs.NoCycle.{no_cycle_is_left}
use Rattle.network_laws.proofs.laws.no_cycle_is_left.Goals as goal

pub returns : goal.returns
returns c = no_cycle_is_left
