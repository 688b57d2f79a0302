use Rattle.period_roll.proofs.Nets.{rolled_keeps}
use Rattle.period_roll.proofs.laws.nets_stay.Goals as goal

pub returns : goal.returns
returns c = rolled_keeps
