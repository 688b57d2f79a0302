-- What members still have to send and to receive, beside the pairs.
use Rattle.std.specs.Prelude.{◌≡◌, ◌↔◌, true, ℕ, ◌+◌, ◌<◌, ◌≤◌, List, length, slice_index, sum, ℤ, pos, ◌+ℤ◌, ◌-ℤ◌}
use Rattle.network_laws.specs.Networks.{sold_in, bought_in}
use Rattle.member_set.specs.declared.set.MemberSet.{MemberSet}
use Rattle.member_set.specs.Members.{has}
use Rattle.residual_graph.specs.declared.flow.Flow.{Flow}
use Rattle.residual_graph.specs.Residual.{ResidualData, flow_rows}
use Rattle.residual_graph.specs.Arcs.{flow_at}
use Rattle.path_solver.specs.Prices.{ArePrices}

-- the net position of a member by the pairs
abbrev pub net_of : List Flow → ℕ → ℤ
net_of flows i = pos (sold_in (flow_rows flows) i) -ℤ pos (bought_in (flow_rows flows) i)

-- the net position that a member is to have
abbrev pub owed : List Flow → List ℕ → List ℕ → ℕ → ℤ
owed flows surplus lack i = (net_of flows i +ℤ pos (slice_index surplus i)) -ℤ pos (slice_index lack i)

-- two pairs of the same members with the same bounds
pub record IsSamePair (f g : Flow) : Type 0 where
  pub seller : g.seller ≡ f.seller
  pub buyer : g.buyer ≡ f.buyer
  pub lower : g.lower ≡ f.lower
  pub most : g.back + g.room ≡ f.back + f.room

-- the same pairs, whatever their amounts within the bounds
pub record AreSamePairs (old new : List Flow) : Type 0 where
  pub same_length : length new ≡ length old
  pub each : (k : ℕ) → k < length old → IsSamePair (flow_at old k) (flow_at new k)

-- some amounts within the bounds give each member the net position that it is to have
abbrev pub IsFeasible : List Flow → List ℕ → List ℕ → Type 0
IsFeasible flows surplus lack = (z : List Flow) × AreSamePairs flows z × ((i : ℕ) → net_of z i ≡ owed flows surplus lack i)

-- no member has both to send and to receive
abbrev pub AreApart : List ℕ → List ℕ → Type 0
AreApart surplus lack = (v : ℕ) → 0 < slice_index lack v → slice_index surplus v ≡ 0

-- amounts within the bounds were moved along tight pairs, towards what the members are to have
pub record IsSentAlong (p : List ℕ) (old new : ResidualData) (surplus lack more_surplus more_lack : List ℕ) : Type 0 where
  pub members : new.members ≡ old.members
  pub pairs : AreSamePairs old.flows new.flows
  pub owed : (i : ℕ) → owed new.flows more_surplus more_lack i ≡ owed old.flows surplus lack i
  pub priced : ArePrices old.flows p → ArePrices new.flows p
  pub senders : (v : ℕ) → 0 < slice_index more_surplus v → 0 < slice_index surplus v
  pub receivers : (v : ℕ) → 0 < slice_index more_lack v → 0 < slice_index lack v
  pub less : sum more_surplus ≤ sum surplus
  pub surplus_each : length more_surplus ≡ length surplus
  pub lack_each : length more_lack ≡ length lack

-- the members of the set are those with an amount
abbrev pub HaveSome : List ℕ → MemberSet → Type 0
HaveSome amounts set = (v : ℕ) → (has set v ≡ true) ↔ (0 < slice_index amounts v)
