use Rattle.standby.proofs.LeftFacts.{holds}
use Rattle.standby.proofs.laws.journal_holds_a_prefix.Goals as goal

pub returns : goal.returns
returns c = λ old new said said' heard heard' f roster w sound is among. holds old new said said' heard heard' f roster w sound is among
