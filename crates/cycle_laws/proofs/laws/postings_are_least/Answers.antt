use Rattle.cycle_laws.proofs.Changes.{postings_are_least}
use Rattle.cycle_laws.proofs.laws.postings_are_least.Goals as goal

pub returns : goal.returns
returns c = postings_are_least
