use Rattle.std.proofs.Common.{◌∙◌}
use Rattle.acceptance.proofs.PartyFacts.{flagged_none}
use Rattle.acceptance.proofs.votes.Votes.none.Goals as goal

pub returns-clause-needed : goal.returns-clause-needed
returns-clause-needed c = c.of.ensures.needed ∙ flagged_none c.none.result.words c.none.ensures
