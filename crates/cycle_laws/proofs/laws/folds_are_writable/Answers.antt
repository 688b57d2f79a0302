use Rattle.cycle_laws.proofs.Bases.{folds_are_writable}
use Rattle.cycle_laws.proofs.laws.folds_are_writable.Goals as goal

pub returns : goal.returns
returns c = folds_are_writable
