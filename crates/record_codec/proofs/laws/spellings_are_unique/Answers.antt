use Rattle.record_codec.proofs.RecordReading.{unique}
use Rattle.record_codec.proofs.laws.spellings_are_unique.Goals as goal

pub returns : goal.returns
returns c = unique
