use Rattle.period_roll.proofs.Moved.{rolled_named}
use Rattle.period_roll.proofs.laws.trades_stay.Goals as goal

pub returns : goal.returns
returns c = rolled_named
