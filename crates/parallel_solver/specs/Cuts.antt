-- Problems, cut into pieces.
use Rattle.std.specs.Prelude.{ℕ, List, [], ◌∷◌, ◌++◌, map}
use Rattle.network_laws.specs.Solutions.{ProblemData}
use Rattle.split_parts.specs.Own.{own_problem}
use Rattle.split_parts.specs.Parts.{PartitionData, IsPartitionOf}

-- the parts of each problem, in order
abbrev pub AreCuts : List ProblemData → List PartitionData → Type 0
AreCuts [] [] = Unit {0}
AreCuts (problem ∷ problems) (cut ∷ cuts) = IsPartitionOf problem.limits cut × AreCuts problems cuts
AreCuts problems cuts = ⊥

-- the pieces of one problem, by its parts: these, or itself where it has just one
abbrev pub pieces_by : ProblemData → List (List ℕ) → List ProblemData
pieces_by problem (part ∷ []) = problem ∷ []
pieces_by problem parts = map (own_problem problem.limits problem.network) parts

abbrev pub pieces_in : ProblemData → PartitionData → List ProblemData
pieces_in problem cut = pieces_by problem cut.parts

-- the pieces of all, in order
abbrev pub pieces_of : List ProblemData → List PartitionData → List ProblemData
pieces_of [] cuts = []
pieces_of (problem ∷ problems) [] = []
pieces_of (problem ∷ problems) (cut ∷ cuts) = pieces_in problem cut ++ pieces_of problems cuts
