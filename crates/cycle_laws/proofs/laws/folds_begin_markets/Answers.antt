use Rattle.cycle_laws.proofs.Market.{folds_begin_markets}
use Rattle.cycle_laws.proofs.laws.folds_begin_markets.Goals as goal

pub returns : goal.returns
returns c = folds_begin_markets
