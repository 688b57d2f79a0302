use Rattle.tolerance_sets.proofs.BoundOwners.{bounds_have_owners}
use Rattle.tolerance_sets.proofs.laws.bounds_have_owners.Goals as goal

pub returns : goal.returns
returns c = bounds_have_owners
