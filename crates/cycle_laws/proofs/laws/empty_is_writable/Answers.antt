use Rattle.cycle_laws.proofs.Bases.{empty_is_writable}
use Rattle.cycle_laws.proofs.laws.empty_is_writable.Goals as goal

pub returns : goal.returns
returns c = empty_is_writable
