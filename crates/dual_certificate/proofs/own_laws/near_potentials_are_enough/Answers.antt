use Rattle.dual_certificate.proofs.NearPrices.{near_potentials_are_enough}
use Rattle.dual_certificate.proofs.own_laws.near_potentials_are_enough.Goals as goal

pub returns : goal.returns
returns c = near_potentials_are_enough
