use Rattle.cycle_laws.proofs.Written.{fitting_is_writable}
use Rattle.cycle_laws.proofs.laws.fitting_is_writable.Goals as goal

pub returns : goal.returns
returns c = fitting_is_writable
