use Rattle.network_laws.proofs.Clashes.{no_clash_is_certified}
use Rattle.network_laws.proofs.laws.no_clash_is_certified.Goals as goal

pub returns : goal.returns
returns c = no_clash_is_certified
