use Rattle.journal_core.proofs.EndFacts.{one_end}
use Rattle.journal_core.proofs.laws.files_end_at_one_place.Goals as goal

pub returns : goal.returns
returns c = one_end
