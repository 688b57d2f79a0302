use Rattle.standby_wire.proofs.RefusedFacts.{refusal_read}
use Rattle.standby_wire.proofs.laws.refusals_are_read.Goals as goal

pub returns : goal.returns
returns c question rows at refusal number more few small is = refusal_read at more question few rows refusal number small is
