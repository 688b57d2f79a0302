use Rattle.proposal_laws.proofs.Overtaken.{proposals_are_overtaken}
use Rattle.proposal_laws.proofs.laws.proposals_are_overtaken.Goals as goal

pub returns : goal.returns
returns c = proposals_are_overtaken
