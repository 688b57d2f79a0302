use Rattle.std.proofs.Common.{◌≡◌, take}
use Rattle.parallel_solver.specs.Cuts.{pieces_of}
use Rattle.parallel_solver.proofs.pieces.Pieces.of.Given as goal

abbrev pub invariant-loop-at : goal.invariant-loop-at
invariant-loop-at l = l.pieces ≡ pieces_of (take l.at l.problems) (take l.at l.cuts)
