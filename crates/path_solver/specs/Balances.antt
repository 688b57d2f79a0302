-- What members have to send and to receive beside a residual graph, from its lower bounds on until nothing is left.
use Rattle.std.specs.Prelude.{◌≡◌, ℕ, ◌<◌, List, length, slice_index, replicate, All}
use Rattle.residual_graph.specs.Residual.{ResidualData}
use Rattle.path_solver.specs.declared.balance.Balance.{Balance}
use Rattle.path_solver.specs.declared.settle.Settled.{Settled}
use Rattle.path_solver.specs.Phases.{IsSettled}
use Rattle.path_solver.specs.Rests.{AreSamePairs, AreApart, IsFeasible, net_of, owed}

-- none of so many members has anything to send or to receive
pub record IsEven (members : ℕ) (b : Balance) : Type 0 where
  pub surplus : b.surplus.items ≡ replicate members 0
  pub lack : b.lack.items ≡ replicate members 0

-- every pair is at its lower bound, and what the balance tells gives each member its net position back
pub record IsOwedBack (old new : ResidualData) (b : Balance) : Type 0 where
  pub members : new.members ≡ old.members
  pub pairs : AreSamePairs old.flows new.flows
  pub lowest : All (λ f. f.back ≡ 0) new.flows
  pub owed : (i : ℕ) → owed new.flows b.surplus.items b.lack.items i ≡ net_of old.flows i
  pub surplus : old.members ≡ length b.surplus.items
  pub lack : old.members ≡ length b.lack.items

-- prices of the first phase: of those that have to send 1, and of those that have to receive 0
pub record AreFirst (r : ResidualData) (p : List ℕ) (b : Balance) : Type 0 where
  pub prices : r.members ≡ length p
  pub surplus : r.members ≡ length b.surplus.items
  pub lack : r.members ≡ length b.lack.items
  pub senders : (v : ℕ) → 0 < slice_index b.surplus.items v → slice_index p v ≡ 1
  pub receivers : (v : ℕ) → 0 < slice_index b.lack.items v → slice_index p v ≡ 0

-- every pair is at its lower bound, and some amounts within the bounds give each member what the balance tells
pub record IsLowered (r : ResidualData) (b : Balance) : Type 0 where
  pub surplus : r.members ≡ length b.surplus.items
  pub lack : r.members ≡ length b.lack.items
  pub lowest : All (λ f. f.back ≡ 0) r.flows
  pub apart : AreApart b.surplus.items b.lack.items
  pub feasible : IsFeasible r.flows b.surplus.items b.lack.items

-- what the balance told was sent, and the prices fit
abbrev pub Settles : ResidualData → Balance → Settled → Type 0
Settles r b s =
    IsSettled r s.residual b.surplus.items b.lack.items s.prices.items
