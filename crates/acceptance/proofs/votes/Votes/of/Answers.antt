use Rattle.acceptance.proofs.PartyFacts.{flagged_none}
use Rattle.acceptance.proofs.votes.Votes.of.Goals as goal

pub returns-clause-accepted : goal.returns-clause-accepted
returns-clause-accepted c = flagged_none c.none.result.words c.none.ensures
