use Rattle.acceptance.proofs.FrozenRows.{plan_is_of_the_frozen}
use Rattle.acceptance.proofs.laws.plan_is_of_the_frozen.Goals as goal

pub returns : goal.returns
returns c = plan_is_of_the_frozen
