use Rattle.acceptance.proofs.NetLaws.{plan_is_executable}
use Rattle.acceptance.proofs.laws.plan_is_executable.Goals as goal

pub returns : goal.returns
returns c = plan_is_executable
