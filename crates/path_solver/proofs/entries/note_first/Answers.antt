use Rattle.std.proofs.Common.{refl}
use Rattle.path_solver.proofs.NotedOne.{noted_one}
use Rattle.path_solver.proofs.entries.note_first.Goals as goal

pub returns : goal.returns
returns c =
    noted_one c.args.flow c.args.entries.now _ _ c.requires.buyer c.requires.seller refl c.put_if.ensures refl c.put_if-2.ensures
