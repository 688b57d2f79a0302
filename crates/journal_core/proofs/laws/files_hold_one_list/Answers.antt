use Rattle.journal_core.proofs.OneReading.{one_reading}
use Rattle.journal_core.proofs.laws.files_hold_one_list.Goals as goal

pub returns : goal.returns
returns c = one_reading
