use Rattle.cycle_laws.proofs.Changes.{nets_stay_at_executions}
use Rattle.cycle_laws.proofs.laws.nets_stay_at_executions.Goals as goal

pub returns : goal.returns
returns c = nets_stay_at_executions
