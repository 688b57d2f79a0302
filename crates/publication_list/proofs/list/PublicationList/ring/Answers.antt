use Rattle.std.proofs.Common.{rules, arith}
use Rattle.publication_list.proofs.Moves.{sits, counts}
use Rattle.publication_list.proofs.list.PublicationList.ring.Goals as goal

pub load_new_seat-seat-requires : goal.load_new_seat-seat-requires
load_new_seat-seat-requires g c = (search rules, sits g.P.Service.fits g.P.Service.answers _ _ _)

pub fetch_add-requires : goal.fetch_add-requires
fetch_add-requires g c = (search rules, search rules, counts g.P.Service.fits g.P.Service.answers _ _ _ _ _ _ (omega arith))
