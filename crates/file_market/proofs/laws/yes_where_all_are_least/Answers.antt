use Rattle.file_market.proofs.YesFacts.{yes_where_all_are_least}
use Rattle.file_market.proofs.laws.yes_where_all_are_least.Goals as goal

pub returns : goal.returns
returns c = yes_where_all_are_least
