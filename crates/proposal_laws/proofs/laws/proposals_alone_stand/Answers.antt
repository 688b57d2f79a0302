use Rattle.proposal_laws.proofs.Alone.{proposals_alone_stand}
use Rattle.proposal_laws.proofs.laws.proposals_alone_stand.Goals as goal

pub returns : goal.returns
returns c = proposals_alone_stand
