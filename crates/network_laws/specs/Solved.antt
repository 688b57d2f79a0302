-- Many problems, and a solution for each.
use Rattle.std.specs.Prelude.{List, [], ◌∷◌}
use Rattle.network_laws.specs.Solutions.{ProblemData, SolutionData, IsSolution, Solves}

-- a solution that is well formed, and solves the problem
pub record IsSolved (problem : ProblemData) (solution : SolutionData) : Type 0 where
  pub fits : IsSolution solution
  pub solves : Solves problem.limits problem.network solution

-- a solution for each problem, in order
abbrev pub AreSolved : List ProblemData → List SolutionData → Type 0
AreSolved [] [] = Unit {0}
AreSolved (problem ∷ problems) (solution ∷ solutions) = IsSolved problem solution × AreSolved problems solutions
AreSolved problems solutions = ⊥
