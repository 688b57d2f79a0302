use Rattle.cycle_laws.proofs.Bases.{writable_comes_back}
use Rattle.cycle_laws.proofs.laws.writable_comes_back.Goals as goal

pub returns : goal.returns
returns c = writable_comes_back
