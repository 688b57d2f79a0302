use Rattle.publication_list.proofs.Moves.{opens}
use Rattle.publication_list.proofs.list.PublicationList.new.Goals as goal

pub vacant-requires : goal.vacant-requires
vacant-requires g c = opens g.P.Service.fits g.P.Service.answers _
