use Rattle.file_market.proofs.SolvedFacts.{what_is_solved_passes}
use Rattle.file_market.proofs.laws.what_is_solved_passes.Goals as goal

pub returns : goal.returns
returns c = what_is_solved_passes
