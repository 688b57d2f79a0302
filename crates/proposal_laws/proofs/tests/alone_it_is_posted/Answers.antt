use Rattle.proposal_laws.proofs.Worked.{is_posted}
use Rattle.proposal_laws.proofs.tests.alone_it_is_posted.Goals as goal

pub returns : goal.returns
returns c = is_posted
