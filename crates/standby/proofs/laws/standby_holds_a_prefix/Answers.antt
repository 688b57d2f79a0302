use Rattle.standby.proofs.LinkFacts.{holds_a_prefix}
use Rattle.standby.proofs.laws.standby_holds_a_prefix.Goals as goal

pub returns : goal.returns
returns c = holds_a_prefix
