-- What the solver is given.
use Rattle.std.specs.Prelude.{◌≡◌}
use Rattle.network_laws.specs.Limits.{LimitsData, IsWithinLimits}
use Rattle.network_laws.specs.Networks.{NetworkData}

-- a network within limits for the same members
pub record IsTask (limits : LimitsData) (network : NetworkData) : Type 0 where
  pub same_members : limits.members ≡ network.members
  pub within : IsWithinLimits limits network
