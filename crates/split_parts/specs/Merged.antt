-- The solutions of parts, put together.
use Rattle.std.specs.Prelude.{◌≡◌, ℕ, ◌<◌, List, [], ◌∷◌, ◌++◌, length, map, slice_index, Option, Some, None, All, IsPermutation, ℤ, pos}
use Rattle.network_laws.specs.declared.rows.Row.{Row}
use Rattle.network_laws.specs.Networks.{NetworkData}
use Rattle.network_laws.specs.Limits.{LimitsData, potential}
use Rattle.network_laws.specs.Solutions.{IsProblem, ProblemData, SolutionData, IsSolution, Solves}
use Rattle.network_laws.specs.Solved.{AreSolved}
use Rattle.split_parts.specs.Own.{number_in}
use Rattle.split_parts.specs.Parts.{PartsData, ArePartsOf, IsRisingPart}

-- a row of a part in the members' numbers
abbrev pub named : List ℕ → Row → Row
named part row = record { seller = slice_index part row.seller; buyer = slice_index part row.buyer; amount = row.amount }

-- the rows of all parts in the members' numbers
abbrev pub rows_of : List (List ℕ) → List SolutionData → List Row
rows_of [] solutions = []
rows_of (part ∷ parts) [] = []
rows_of (part ∷ parts) (s ∷ solutions) = map (named part) s.network.rows ++ rows_of parts solutions

-- a member's own potential, where it is in the part, and else another
abbrev pub own_or : Option ℕ → List ℤ → ℤ → ℤ
own_or None own other = other
own_or (Some q) own other = potential own q

-- a member's potential in its part, or 0
abbrev pub potential_in : List (List ℕ) → List SolutionData → ℕ → ℤ
potential_in [] solutions i = pos 0
potential_in (part ∷ parts) [] i = pos 0
potential_in (part ∷ parts) (s ∷ solutions) i = own_or (number_in part i) s.potentials (potential_in parts solutions i)

-- the network of the parts' rows, with each member's potential in its part, and 0 for a member in none
pub record IsMerged (parts : List (List ℕ)) (members : ℕ) (solutions : List SolutionData) (merged : SolutionData) : Type 0 where
  pub size : merged.network.members ≡ members
  pub rows : IsPermutation (rows_of parts solutions) merged.network.rows
  pub potentials : (i : ℕ) → i < members → potential merged.potentials i ≡ potential_in parts solutions i

-- they are the parts of a problem of so many members
pub record AreParts (members : ℕ) (parts : PartsData) : Type 0 where
  pub limits : LimitsData
  pub network : NetworkData
  pub problem : IsProblem (record { limits = limits; network = network })
  pub count : network.members ≡ members
  pub are : ArePartsOf limits network parts

-- the members of the parts of a problem of so many members, and a solution for each part
pub record AreSolvedParts (members : ℕ) (parts : List (List ℕ)) (solutions : List SolutionData) : Type 0 where
  pub problems : List ProblemData
  pub are : AreParts members (record { members = parts; problems = problems })
  pub solved : AreSolved problems solutions

-- solutions of the parts of a problem, put together, are a solution of the problem
abbrev pub MergedIsSolution : Type 0
MergedIsSolution =
    (limits : LimitsData) (network : NetworkData) (parts : PartsData) (solutions : List SolutionData) (merged : SolutionData) → IsProblem (record { limits = limits; network = network }) →
    ArePartsOf limits network parts → AreSolved parts.problems solutions →
    IsSolution merged → IsMerged parts.members network.members solutions merged → Solves limits network merged

-- a part of so many members, and a solution of its size
pub record IsGoodPart (members : ℕ) (part : List ℕ) (s : SolutionData) : Type 0 where
  pub rising : IsRisingPart part
  pub within : All (λ m. m < members) part
  pub size : s.network.members ≡ length part

-- parts, and a solution for each
abbrev pub AreGoodParts : ℕ → List (List ℕ) → List SolutionData → Type 0
AreGoodParts members [] [] = Unit {0}
AreGoodParts members [] (s ∷ solutions) = ⊥
AreGoodParts members (part ∷ parts) [] = ⊥
AreGoodParts members (part ∷ parts) (s ∷ solutions) = IsGoodPart members part s × AreGoodParts members parts solutions
