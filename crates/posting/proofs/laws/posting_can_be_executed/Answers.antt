use Rattle.posting.proofs.Settled.{posting_can_be_executed}
use Rattle.posting.proofs.laws.posting_can_be_executed.Goals as goal

pub returns : goal.returns
returns c = posting_can_be_executed
