use Rattle.trade_history.proofs.Replay.{answers_tell_executions}
use Rattle.trade_history.proofs.laws.answers_tell_executions.Goals as goal

pub returns : goal.returns
returns c = answers_tell_executions
