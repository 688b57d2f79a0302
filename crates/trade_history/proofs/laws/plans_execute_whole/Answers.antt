use Rattle.trade_history.proofs.Whole.{plans_execute_whole}
use Rattle.trade_history.proofs.laws.plans_execute_whole.Goals as goal

pub returns : goal.returns
returns c = plans_execute_whole
