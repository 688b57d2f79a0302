use Rattle.std.proofs.Common.{◌≡◌, ◌++◌, take}
use Rattle.std.specs.Prelude.{All, map}
use Rattle.parallel_solver.specs.Cuts.{pieces_in}
use Rattle.parallel_solver.specs.Pieces.{piece_of, IsPiece}
use Rattle.parallel_solver.proofs.pieces.Pieces.add.Given as goal

abbrev pub invariant-loop-at : goal.invariant-loop-at
invariant-loop-at l = record {
  pieces : map piece_of l.self-inside.pieces.items ≡ map piece_of l.initial.self-inside.pieces.items ++ take l.at (pieces_in l.problem l.partition);
  sound : All IsPiece l.self-inside.pieces.items;
}
