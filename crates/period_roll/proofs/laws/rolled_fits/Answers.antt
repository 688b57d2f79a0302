use Rattle.period_roll.proofs.Fitting.{rolled_fits}
use Rattle.period_roll.proofs.laws.rolled_fits.Goals as goal

pub returns : goal.returns
returns c = rolled_fits
