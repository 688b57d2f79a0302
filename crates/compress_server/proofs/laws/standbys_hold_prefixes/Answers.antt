use Rattle.compress_server.proofs.StandbyFacts.{hold_prefixes}
use Rattle.compress_server.proofs.laws.standbys_hold_prefixes.Goals as goal

pub returns : goal.returns
returns c = hold_prefixes c.folds_keep_the_list.ensures
