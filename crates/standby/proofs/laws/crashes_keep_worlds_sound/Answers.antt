use Rattle.standby.proofs.LeftFacts.{sound_again}
use Rattle.standby.proofs.laws.crashes_keep_worlds_sound.Goals as goal

pub returns : goal.returns
returns c = λ old new said said' heard heard' f roster w sound is among keeps none first others split now there image left_old left. sound_again old new said said' heard heard' f roster w sound is among keeps none first others split now there image left_old left
