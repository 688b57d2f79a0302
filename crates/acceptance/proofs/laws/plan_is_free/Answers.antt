use Rattle.acceptance.proofs.OnceEach.{plan_is_free}
use Rattle.acceptance.proofs.laws.plan_is_free.Goals as goal

pub returns : goal.returns
returns c = plan_is_free
