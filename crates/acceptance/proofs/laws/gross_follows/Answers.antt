use Rattle.acceptance.proofs.NetLaws.{gross_follows}
use Rattle.acceptance.proofs.laws.gross_follows.Goals as goal

pub returns : goal.returns
returns c = gross_follows
