use Rattle.standby_link.proofs.TextFacts.{caught_text}
use Rattle.standby_link.proofs.laws.caught_up_text.Goals as goal

pub returns : goal.returns
returns c = caught_text
