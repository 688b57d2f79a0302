use Rattle.network_laws.proofs.FreeLimits.{free_limits_reach_floor}
use Rattle.network_laws.proofs.laws.free_limits_reach_floor.Goals as goal

pub returns : goal.returns
returns c = free_limits_reach_floor
