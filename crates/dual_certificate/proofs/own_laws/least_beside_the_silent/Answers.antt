use Rattle.dual_certificate.proofs.Silent.{least_beside_the_silent}
use Rattle.dual_certificate.proofs.own_laws.least_beside_the_silent.Goals as goal

pub returns : goal.returns
returns c = least_beside_the_silent
