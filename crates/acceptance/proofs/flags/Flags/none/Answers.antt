use Rattle.acceptance.proofs.FlagFacts.{none_flagged}
use Rattle.acceptance.proofs.flags.Flags.none.Goals as goal

pub returns : goal.returns
returns c = none_flagged
