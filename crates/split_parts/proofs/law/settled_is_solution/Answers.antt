use Rattle.split_parts.proofs.Settled.{settled_solves}
use Rattle.split_parts.proofs.law.settled_is_solution.Goals as goal

pub returns : goal.returns
returns c = settled_solves
