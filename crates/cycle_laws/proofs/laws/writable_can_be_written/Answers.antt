use Rattle.cycle_laws.proofs.Written.{writable_can_be_written}
use Rattle.cycle_laws.proofs.laws.writable_can_be_written.Goals as goal

pub returns : goal.returns
returns c = writable_can_be_written
