use Rattle.dual_certificate.proofs.OwnPairs.{certified_where_all_but_one_are}
use Rattle.dual_certificate.proofs.own_laws.certified_where_all_but_one_are.Goals as goal

pub returns : goal.returns
returns c = certified_where_all_but_one_are
