use Rattle.dual_certificate.proofs.OwnClashes.{no_own_clash_is_certified}
use Rattle.dual_certificate.proofs.own_laws.no_own_clash_is_certified.Goals as goal

pub returns : goal.returns
returns c = no_own_clash_is_certified
