use Rattle.dual_certificate.proofs.OwnPairs.{certified_where_all_members_are}
use Rattle.dual_certificate.proofs.own_laws.certified_where_all_members_are.Goals as goal

pub returns : goal.returns
returns c = certified_where_all_members_are
