use Rattle.cycle_laws.proofs.Market.{empty_begins_markets}
use Rattle.cycle_laws.proofs.laws.empty_begins_markets.Goals as goal

pub returns : goal.returns
returns c = empty_begins_markets
