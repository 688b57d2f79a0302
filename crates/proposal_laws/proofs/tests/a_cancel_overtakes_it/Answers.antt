use Rattle.proposal_laws.proofs.Worked.{is_cancelled}
use Rattle.proposal_laws.proofs.tests.a_cancel_overtakes_it.Goals as goal

pub returns : goal.returns
returns c = is_cancelled
