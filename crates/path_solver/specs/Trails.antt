-- The way that a walk has come so far.
use Rattle.std.specs.Prelude.{◌≡◌, ℕ, ◌+◌, ◌-◌, ◌<◌, ◌≤◌, true, List, slice_index}
use Rattle.member_set.specs.declared.set.MemberSet.{MemberSet}
use Rattle.member_set.specs.Members.{has}
use Rattle.residual_graph.specs.declared.flow.Flow.{Flow}
use Rattle.residual_graph.specs.Residual.{ResidualData}
use Rattle.residual_graph.specs.Arcs.{arc_count, head, tail}
use Rattle.path_solver.specs.declared.stand.Stand.{Stand}
use Rattle.path_solver.specs.Prices.{IsOpen}
use Rattle.path_solver.specs.Levels.{layer_at}

-- an open arc from level i + 1 to level i
pub record IsRung (flows : List Flow) (p levels : List ℕ) (i a : ℕ) : Type 0 where
  pub arc : a < arc_count flows
  pub is_open : IsOpen flows p a
  pub ends : slice_index levels (head flows a) ≡ i
  pub starts : slice_index levels (tail flows a) ≡ i + 1

-- the arc of the path that leads to this level, where the first leads to the one below `top`
abbrev pub arc_to : List ℕ → ℕ → ℕ → ℕ
arc_to path top i = slice_index path (top - (i + 1))

-- from the level `top` down to `low`, where the walk is
pub record IsTrail (r : ResidualData) (p levels : List ℕ) (layers : List MemberSet) (path : List ℕ) (low top here from : ℕ) : Type 0 where
  pub within : low ≤ top
  pub member : here < r.members
  pub level : slice_index levels here ≡ low
  pub rungs : (i : ℕ) → low ≤ i → i < top → IsRung r.flows p levels i (arc_to path top i)
  pub kept : (i : ℕ) → low ≤ i → i < top → has (layer_at layers i) (head r.flows (arc_to path top i)) ≡ true
  pub joined : (i : ℕ) → low ≤ i → i + 1 < top → head r.flows (arc_to path top (i + 1)) ≡ tail r.flows (arc_to path top i)
  pub start : low < top → head r.flows (arc_to path top low) ≡ here
  pub end : (i : ℕ) → low ≤ i → i + 1 ≡ top → tail r.flows (arc_to path top i) ≡ from
  pub none : low ≡ top → here ≡ from

-- where a walk from this member stands: behind the first arcs of the path, which lead down the levels
pub record IsBegun (r : ResidualData) (p levels : List ℕ) (layers : List MemberSet) (path : List ℕ) (from : ℕ) (s : Stand) : Type 0 where
  pub done : s.done ≤ slice_index levels from
  pub trail : IsTrail r p levels layers path (slice_index levels from - s.done) (slice_index levels from) s.here from
