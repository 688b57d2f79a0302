use Rattle.acceptance.proofs.Realised.{plan_realises}
use Rattle.acceptance.proofs.laws.plan_realises.Goals as goal

pub returns : goal.returns
returns c = plan_realises
