use Rattle.std.proofs.Common.{refl}
use Rattle.path_solver.proofs.NotedOne.{noted_one}
use Rattle.path_solver.proofs.entries.note.Goals as goal

pub returns : goal.returns
returns c =
    noted_one c.args.flow c.args.entries.now _ _ c.requires.buyer c.requires.seller refl c.keep_member.ensures refl c.keep_member-2.ensures
