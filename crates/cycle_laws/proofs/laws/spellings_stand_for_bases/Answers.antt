use Rattle.cycle_laws.proofs.Written.{spellings_stand_for_bases}
use Rattle.cycle_laws.proofs.laws.spellings_stand_for_bases.Goals as goal

pub returns : goal.returns
returns c = spellings_stand_for_bases
