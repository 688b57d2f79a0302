use Rattle.trade_history.proofs.Listed.{others_are_not_listed}
use Rattle.trade_history.proofs.laws.others_are_not_listed.Goals as goal

pub returns : goal.returns
returns c = others_are_not_listed
