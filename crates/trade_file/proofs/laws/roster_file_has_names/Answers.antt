use Rattle.trade_file.proofs.NameFacts.{roster_file_has_names}
use Rattle.trade_file.proofs.laws.roster_file_has_names.Goals as goal

pub returns : goal.returns
returns c = roster_file_has_names
