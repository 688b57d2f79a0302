use Rattle.dual_certificate.proofs.Silent.{least_where_all_but_one_say}
use Rattle.dual_certificate.proofs.own_laws.least_where_all_but_one_say.Goals as goal

pub returns : goal.returns
returns c = least_where_all_but_one_say
