-- A network with its potentials, and a network with its limits.
use Rattle.std.specs.Prelude.{◌≡◌, List, length, All, ℤ, pos, neg_ℤ, ◌≤ℤ◌}
use Rattle.network_laws.specs.Networks.{NetworkData, IsNetwork, gross}
use Rattle.network_laws.specs.Limits.{LimitsData, AreLimits, IsWithinLimits, IsCertified}
use Rattle.units_core.specs.declared.limits.TheConstants.{MOST_POTENTIAL}

-- a network and a potential for each of its members
pub record SolutionData : Type 0 where
  pub network : NetworkData
  pub potentials : List ℤ

-- a potential lies between -1,000,000 and 1,000,000
pub record IsPotential (p : ℤ) : Type 0 where
  pub least : neg_ℤ (pos MOST_POTENTIAL) ≤ℤ p
  pub most : p ≤ℤ pos MOST_POTENTIAL

-- what a solution keeps
pub record IsSolution (s : SolutionData) : Type 0 where
  pub network : IsNetwork s.network
  pub one_each : length s.potentials ≡ s.network.members
  pub in_range : All IsPotential s.potentials

-- limits, and a network within them
pub record ProblemData : Type 0 where
  pub limits : LimitsData
  pub network : NetworkData

-- what a problem keeps
pub record IsProblem (problem : ProblemData) : Type 0 where
  pub limits : AreLimits problem.limits
  pub network : IsNetwork problem.network
  pub same_members : problem.limits.members ≡ problem.network.members
  pub within : IsWithinLimits problem.limits problem.network

-- an answer to a problem: certified, and the old network itself where it has the same gross
pub record Solves (limits : LimitsData) (network : NetworkData) (s : SolutionData) : Type 0 where
  pub certified : IsCertified limits network s.network s.potentials
  pub same_gross : gross s.network ≡ gross network → s.network ≡ network
