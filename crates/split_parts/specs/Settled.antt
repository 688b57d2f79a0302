-- A problem that has just one part, and members in no part.
use Rattle.std.specs.Prelude.{◌≡◌, ℕ, ◌<◌, List, [], ◌∷◌, Option, Some, None, ℤ, pos}
use Rattle.network_laws.specs.Networks.{NetworkData}
use Rattle.network_laws.specs.Limits.{LimitsData, potential}
use Rattle.network_laws.specs.Solutions.{SolutionData, Solves}
use Rattle.split_parts.specs.Own.{number_in}
use Rattle.split_parts.specs.Parts.{IsPartition}

-- a potential of who has a number in the part, and 0 of who has none
abbrev pub kept_or_zero : Option ℕ → ℤ → ℤ
kept_or_zero None p = pos 0
kept_or_zero (Some q) p = p

-- the same network and potentials, but 0 for each member that is not in the part
pub record IsSettled (part : List ℕ) (s settled : SolutionData) : Type 0 where
  pub network : settled.network ≡ s.network
  pub potentials : (i : ℕ) → i < s.network.members → potential settled.potentials i ≡ kept_or_zero (number_in part i) (potential s.potentials i)

-- a solution of a problem that has just one part is still one when the potentials of the other members are 0
abbrev pub SettledIsSolution : Type 0
SettledIsSolution =
    (limits : LimitsData) (network : NetworkData) (part : List ℕ) (s settled : SolutionData) → IsPartition limits (part ∷ []) →
    Solves limits network s → IsSettled part s settled → Solves limits network settled
