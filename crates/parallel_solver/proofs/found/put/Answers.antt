use Rattle.std.proofs.Common.{◌<◌, length, arith}
use Rattle.parallel_solver.proofs.Rights.{put_right, found_put}
use Rattle.parallel_solver.proofs.found.put.Goals as goal

pub returns-clause-right : goal.returns-clause-right
returns-clause-right c = put_right c.args.pieces.now c.args.found.now c.args.done c.requires.right c.requires.found

pub returns-clause-found : goal.returns-clause-found
returns-clause-found c =
    let within : c.args.done.place < length c.args.found.now = omega (arith, c.requires.right.within, c.requires.found.size) in
    found_put c.args.found.now c.args.done within
