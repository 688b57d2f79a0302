use Rattle.trade_history.proofs.Whole.{search_finds_executions}
use Rattle.trade_history.proofs.laws.search_finds_executions.Goals as goal

pub returns : goal.returns
returns c = search_finds_executions
