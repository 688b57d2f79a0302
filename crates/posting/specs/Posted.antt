-- What the test of a posting rests on.
use Rattle.std.specs.Prelude.{◌≡◌, ℕ, List, All}
use Rattle.network_laws.specs.Solutions.{ProblemData}

-- each problem is of so many members
abbrev pub AreOfMembers : ℕ → List ProblemData → Type 0
AreOfMembers members problems = All (λ problem. problem.network.members ≡ members) problems
