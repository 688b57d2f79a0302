use Rattle.standby_link.proofs.ForkFacts.{forks_seen}
use Rattle.standby_link.proofs.laws.forks_are_seen.Goals as goal

pub returns : goal.returns
returns c = forks_seen c.writing_is_read.ensures c.only_the_same_is_read.ensures c.refusals_are_read.ensures
