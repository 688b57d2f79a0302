use Rattle.dual_certificate.proofs.OwnRows.{own_rows_are_enough}
use Rattle.dual_certificate.proofs.own_laws.own_rows_are_enough.Goals as goal

pub returns : goal.returns
returns c = own_rows_are_enough
