-- The solutions of places.
use Rattle.std.specs.Prelude.{◌≡◌, ℕ, List, slice_get, Option, Some}
use Rattle.network_laws.specs.Solutions.{ProblemData, SolutionData}
use Rattle.network_laws.specs.Solved.{IsSolved}

-- it solves the problem of that place
abbrev pub SolvesAt : List ProblemData → ℕ → SolutionData → Type 0
SolvesAt problems place solution = (problem : ProblemData) → slice_get problems place ≡ Some problem → IsSolved problem solution

-- a solution was found for that place
abbrev pub IsFound : List (Option SolutionData) → ℕ → Type 0
IsFound found place = (solution : SolutionData) × (slice_get found place ≡ Some (Some solution))
