-- Pieces of problems.
use Rattle.std.specs.Prelude.{ℕ, ◌<◌, List, [], ◌∷◌, length, slice_index_or}
use Rattle.network_laws.specs.Solutions.{ProblemData}
use Rattle.split_parts.specs.Own.{own_problem}
use Rattle.split_parts.specs.Parts.{IsPartitionOf}
use Rattle.parallel_solver.specs.declared.pieces.Piece.{Piece}

-- the problem of the part at a place, or where there is just one part, the problem itself
abbrev pub part_at : ProblemData → List (List ℕ) → ℕ → ProblemData
part_at problem (part ∷ []) at = problem
part_at problem parts at = own_problem problem.limits problem.network (slice_index_or parts at [])

abbrev pub piece_of : Piece → ProblemData
piece_of piece = part_at piece.problem.now piece.partition.now.parts piece.at

-- its parts are those of its problem, and it is one of them
pub record IsPiece (piece : Piece) : Type 0 where
  pub parts : IsPartitionOf piece.problem.now.limits piece.partition.now
  pub here : piece.at < length piece.partition.now.parts
