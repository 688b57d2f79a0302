use Rattle.proposal_laws.proofs.Worked.{is_begun_by_two}
use Rattle.proposal_laws.proofs.tests.another_begin_overtakes_it.Goals as goal

pub returns : goal.returns
returns c = is_begun_by_two
