-- The records of a house's changes, when it is opened.
use Rattle.std.specs.Prelude.{◌≡◌, ◌≤◌, []}
use Rattle.house.specs.declared.chronicle.TheConstants.{VOTES_ROOM}
use Rattle.house.specs.declared.pools.Pools.{Pools}

-- both pools have room for the votes of all members, and the second has no record
pub record HaveVotesRoom (pools : Pools) : Type 0 where
  pub read : VOTES_ROOM ≤ pools.read.room
  pub none : pools.empty.changes ≡ []
  pub empty : VOTES_ROOM ≤ pools.empty.room
