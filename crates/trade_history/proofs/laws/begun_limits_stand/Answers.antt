use Rattle.trade_history.proofs.Versions.{begun_limits_stand}
use Rattle.trade_history.proofs.laws.begun_limits_stand.Goals as goal

pub returns : goal.returns
returns c = begun_limits_stand
