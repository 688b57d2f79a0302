use Rattle.base_codec.proofs.BaseReading.{bases_unique}
use Rattle.base_codec.proofs.laws.base_spellings_are_unique.Goals as goal

pub returns : goal.returns
returns c = bases_unique
