use Rattle.recovery.proofs.EntryFacts.{one_history}
use Rattle.recovery.proofs.laws.files_stand_for_one_history.Goals as goal

pub returns : goal.returns
returns c = one_history
