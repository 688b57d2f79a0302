use Rattle.command_types.proofs.CutFacts.{cut_lines_join}
use Rattle.command_types.proofs.laws.cut_lines_join.Goals as goal

pub returns : goal.returns
returns c = cut_lines_join
