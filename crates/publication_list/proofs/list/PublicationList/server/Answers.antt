use Rattle.std.proofs.Common.{rules}
use Rattle.publication_list.proofs.Moves.{sits}
use Rattle.publication_list.proofs.list.PublicationList.server.Goals as goal

pub load_new_seat-seat-requires : goal.load_new_seat-seat-requires
load_new_seat-seat-requires g c = (search rules, sits g.P.Service.fits g.P.Service.answers _ _ _)
