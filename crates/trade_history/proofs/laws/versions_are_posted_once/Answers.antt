use Rattle.trade_history.proofs.Versions.{versions_are_posted_once}
use Rattle.trade_history.proofs.laws.versions_are_posted_once.Goals as goal

pub returns : goal.returns
returns c = versions_are_posted_once
