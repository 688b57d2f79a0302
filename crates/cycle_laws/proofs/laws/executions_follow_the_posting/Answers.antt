use Rattle.cycle_laws.proofs.Changes.{executions_follow_the_posting}
use Rattle.cycle_laws.proofs.laws.executions_follow_the_posting.Goals as goal

pub returns : goal.returns
returns c = executions_follow_the_posting
