use Rattle.period_roll.proofs.Written.{can_be_written}
use Rattle.period_roll.proofs.laws.rolled_can_be_written.Goals as goal

pub returns : goal.returns
returns c = can_be_written
