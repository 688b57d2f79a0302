use Rattle.file_market.proofs.PassFacts.{nothing_fails_where_all_pass}
use Rattle.file_market.proofs.laws.nothing_fails_where_all_pass.Goals as goal

pub returns : goal.returns
returns c = nothing_fails_where_all_pass
