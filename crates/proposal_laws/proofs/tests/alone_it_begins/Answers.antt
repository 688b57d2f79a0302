use Rattle.proposal_laws.proofs.Worked.{is_begun_alone}
use Rattle.proposal_laws.proofs.tests.alone_it_begins.Goals as goal

pub returns : goal.returns
returns c = is_begun_alone
