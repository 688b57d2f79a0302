use Rattle.proposal_laws.proofs.Alone.{scripts_stand_alone}
use Rattle.proposal_laws.proofs.laws.scripts_stand_alone.Goals as goal

pub returns : goal.returns
returns c = scripts_stand_alone
