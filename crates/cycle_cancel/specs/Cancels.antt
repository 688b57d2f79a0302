-- What a search finds, and what cancelled cycles leave.
use Rattle.std.specs.Prelude.{◌≡◌, ℕ, ◌<◌, Bool, true, false, List, length, All, ℤ, pos, neg_ℤ, ◌≤ℤ◌}
use Rattle.network_laws.specs.declared.rows.LimitRow.{LimitRow}
use Rattle.network_laws.specs.Networks.{NetworkData, net, gross as gross_of}
use Rattle.residual_graph.specs.declared.flow.Flow.{Flow}
use Rattle.residual_graph.specs.Residual.{ResidualData, network_of}
use Rattle.residual_graph.specs.Built.{AreFlowsOf, flow_network}
use Rattle.residual_graph.specs.Labels.{AreLabels}
use Rattle.cycle_cancel.specs.declared.search.Found.{Found}
use Rattle.cycle_cancel.specs.declared.search.Found.TheVariants.{Labels, Cycle}
use Rattle.cycle_cancel.specs.declared.settle.Settled.{Settled}
use Rattle.cycle_cancel.specs.Traces.{IsGain}

-- a label between -members and 0
abbrev pub IsLabel : ℕ → ℤ → Type 0
IsLabel members l = (neg_ℤ (pos members) ≤ℤ l) × (l ≤ℤ pos 0)

-- a label for each member, which no arc can lower
pub record AreSettled (r : ResidualData) (labels : List ℤ) : Type 0 where
  pub one_each : length labels ≡ r.members
  pub low : All (IsLabel r.members) labels
  pub none_lower : AreLabels r.flows labels

-- labels, which no arc can lower where each arc with room counts, or a cycle that gains
abbrev pub IsFound : ℕ → ResidualData → Found → Type 0
IsFound least r (Labels labels) = least ≡ 1 → AreSettled r labels.items
IsFound least r (Cycle arcs) = IsGain r.flows arcs.items

-- less gross, the same nets, and still within the limits
pub record IsCancelled (old new : List Flow) : Type 0 where
  pub gross : (n : ℕ) → gross_of (flow_network n new) < gross_of (flow_network n old)
  pub nets : (n i : ℕ) → net (flow_network n new) i ≡ net (flow_network n old) i
  pub limits : (cap : ℕ) (limits : List LimitRow) → AreFlowsOf cap limits old → AreFlowsOf cap limits new

-- less gross where cycles were cancelled, and else as before
abbrev pub IsLowered : Bool → List Flow → List Flow → Type 0
IsLowered true old new = (n : ℕ) → gross_of (flow_network n new) < gross_of (flow_network n old)
IsLowered false old new = new ≡ old

-- the same nets, and within the same limits
pub record IsKept (cancelled : Bool) (old new : ResidualData) : Type 0 where
  pub members : new.members ≡ old.members
  pub lowered : IsLowered cancelled old.flows new.flows
  pub nets : (n i : ℕ) → net (flow_network n new.flows) i ≡ net (flow_network n old.flows) i
  pub limits : (cap : ℕ) (limits : List LimitRow) → AreFlowsOf cap limits old.flows → AreFlowsOf cap limits new.flows

-- and no arc lowers a label
pub record IsSettled (old new : ResidualData) (s : Settled) : Type 0 where
  pub kept : IsKept s.cancelled old new
  pub settled : AreSettled new s.labels.items

-- the network that a solver answers: that of the residual graph, or the old one where no cycle was cancelled
abbrev pub answer_of : Bool → ResidualData → NetworkData → NetworkData
answer_of true r old = network_of r
answer_of false r old = old
