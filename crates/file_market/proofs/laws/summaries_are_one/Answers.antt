use Rattle.file_market.proofs.SummaryFacts.{summaries_are_one}
use Rattle.file_market.proofs.laws.summaries_are_one.Goals as goal

pub returns : goal.returns
returns c = summaries_are_one
