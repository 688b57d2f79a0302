use Rattle.proposal_laws.proofs.NeverBad.{proposals_are_never_bad}
use Rattle.proposal_laws.proofs.laws.proposals_are_never_bad.Goals as goal

pub returns : goal.returns
returns c = proposals_are_never_bad
