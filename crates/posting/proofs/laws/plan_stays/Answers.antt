use Rattle.posting.proofs.FrozenStays.{plan_stays}
use Rattle.posting.proofs.laws.plan_stays.Goals as goal

pub returns : goal.returns
returns c = plan_stays
