use Rattle.standby_wire.proofs.AgainFacts.{none_is_other, same_is_own}
use Rattle.standby_wire.proofs.laws.only_the_same_is_read.Goals as goal

pub returns : goal.returns
returns c = record {
  none = λ rows at position own more reply rest small read. none_is_other rows at more small position own reply rest read;
  entry = λ rows at position own bytes more reply rest small few fits read. same_is_own rows at more small position own bytes few fits reply rest read;
}
