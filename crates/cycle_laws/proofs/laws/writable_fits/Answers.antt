use Rattle.cycle_laws.proofs.Bases.{writable_fits}
use Rattle.cycle_laws.proofs.laws.writable_fits.Goals as goal

pub returns : goal.returns
returns c = writable_fits
