use Rattle.dual_certificate.proofs.Silent.{gross_is_what_all_sell}
use Rattle.dual_certificate.proofs.own_laws.gross_is_what_all_sell.Goals as goal

pub returns : goal.returns
returns c = gross_is_what_all_sell
