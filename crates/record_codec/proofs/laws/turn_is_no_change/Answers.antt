use Rattle.record_codec.proofs.RecordReading.{turn_none}
use Rattle.record_codec.proofs.laws.turn_is_no_change.Goals as goal

pub returns : goal.returns
returns c = turn_none
