use Rattle.proposal_laws.proofs.Others.{others_overtake}
use Rattle.proposal_laws.proofs.laws.others_overtake.Goals as goal

pub returns : goal.returns
returns c = others_overtake
