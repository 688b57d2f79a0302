use Rattle.standby.proofs.LinkFacts.{stays_sound}
use Rattle.standby.proofs.laws.worlds_stay_sound.Goals as goal

pub returns : goal.returns
returns c = stays_sound
