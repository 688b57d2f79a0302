use Rattle.standby.proofs.LinkFacts.{grows}
use Rattle.standby.proofs.laws.primary_grows.Goals as goal

pub returns : goal.returns
returns c = grows
