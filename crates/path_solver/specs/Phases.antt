-- What the phases keep.
use Rattle.std.specs.Prelude.{◌≡◌, ℕ, ◌+◌, ◌<◌, ◌≤◌, ◌==◌, if◌then◌else◌, List, length, slice_index}
use Rattle.residual_graph.specs.Residual.{ResidualData, IsResidual}
use Rattle.path_solver.specs.Prices.{ArePrices}
use Rattle.path_solver.specs.Rests.{AreSamePairs, net_of, owed, AreApart}

-- those that have to send have the price `top`, which is the most, and those that have to receive 0
pub record AreRated (top : ℕ) (p surplus lack : List ℕ) : Type 0 where
  pub senders : (v : ℕ) → 0 < slice_index surplus v → slice_index p v ≡ top
  pub receivers : (v : ℕ) → 0 < slice_index lack v → slice_index p v ≡ 0
  pub most : (v : ℕ) → slice_index p v ≤ top

-- prices, and amounts that were moved so far
pub record IsPhase (old new : ResidualData) (old_surplus old_lack surplus lack p : List ℕ) (phase : ℕ) : Type 0 where
  pub members : new.members ≡ old.members
  pub pairs : AreSamePairs old.flows new.flows
  pub owed : (i : ℕ) → owed new.flows surplus lack i ≡ owed old.flows old_surplus old_lack i
  pub priced : ArePrices new.flows p
  pub rated : AreRated phase p surplus lack
  pub apart : AreApart surplus lack
  pub few : phase ≤ old.members

-- prices of all members for the pairs, whose nets are as they are to be
pub record IsSettled (old new : ResidualData) (surplus lack p : List ℕ) : Type 0 where
  pub members : new.members ≡ old.members
  pub pairs : AreSamePairs old.flows new.flows
  pub nets : (i : ℕ) → i < old.members → net_of new.flows i ≡ owed old.flows surplus lack i
  pub priced : ArePrices new.flows p
  pub one_each : length p ≡ old.members
  pub most : (v : ℕ) → slice_index p v ≤ old.members

-- amounts that the prices of all members fit, with the nets of the old ones
pub record IsPricedAnew (old new : ResidualData) (p : List ℕ) : Type 0 where
  pub residual : IsResidual old
  pub members : new.members ≡ old.members
  pub pairs : AreSamePairs old.flows new.flows
  pub nets : (i : ℕ) → i < old.members → net_of new.flows i ≡ net_of old.flows i
  pub priced : ArePrices new.flows p
  pub one_each : length p ≡ old.members
  pub most : (v : ℕ) → slice_index p v ≤ old.members

-- a price after the members that are not reached were raised
abbrev pub raised_price : List ℕ → List ℕ → ℕ → ℕ
raised_price levels p v = if slice_index levels v == 65535 then slice_index p v + 1 else slice_index p v
