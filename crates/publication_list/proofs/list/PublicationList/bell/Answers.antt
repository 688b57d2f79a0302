use Rattle.std.proofs.Common.{rules, arith}
use Rattle.publication_list.proofs.Moves.{sits, sets_bits}
use Rattle.publication_list.proofs.list.PublicationList.bell.Goals as goal

pub load_new_seat-seat-requires : goal.load_new_seat-seat-requires
load_new_seat-seat-requires g c = (search rules, sits g.P.Service.fits g.P.Service.answers _ _ _)

pub fetch_or-found-requires : goal.fetch_or-found-requires
fetch_or-found-requires g c = (search rules, search rules, sets_bits g.P.Service.fits g.P.Service.answers _ _ _ _ _ _ (omega arith))
