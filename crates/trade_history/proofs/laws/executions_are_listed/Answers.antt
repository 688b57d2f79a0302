use Rattle.trade_history.proofs.Listed.{executions_are_listed}
use Rattle.trade_history.proofs.laws.executions_are_listed.Goals as goal

pub returns : goal.returns
returns c = executions_are_listed
