use Rattle.acceptance.proofs.NetLaws.{nets_stay}
use Rattle.acceptance.proofs.laws.nets_stay.Goals as goal

pub returns : goal.returns
returns c = nets_stay
