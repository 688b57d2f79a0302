use Rattle.split_parts.proofs.Certified.{merged_solves}
use Rattle.split_parts.proofs.law.merged_is_solution.Goals as goal

pub returns : goal.returns
returns c = merged_solves
