-- A table of rounds, and cycles found in it.
use Rattle.std.specs.Prelude.{◌≡◌, ◌≢◌, ℕ, suc, ◌<◌, List, [], ◌∷◌, length, slice_index_or, AllPairs, All, Option, ℤ, pos, ◌+ℤ◌, ◌<ℤ◌}
use Rattle.std.specs.declared.alloc.Global.{Global}
use Rattle.std.specs.declared.vec.Vec.{Vec}
use Rattle.residual_graph.specs.declared.flow.Flow.{Flow}
use Rattle.residual_graph.specs.Arcs.{arc_count, tail, room, cost}
use Rattle.residual_graph.specs.Paths.{IsWalk}
use Rattle.cycle_cancel.specs.declared.round.Step.{Step}
use Rattle.cycle_cancel.specs.Rounds.{first_step, IsRound}

abbrev pub arc_at : List Step → ℕ → Option ℕ
arc_at steps v = (slice_index_or steps v first_step).arc

abbrev pub costs : List ℕ → ℤ
costs [] = pos 0
costs (a ∷ arcs) = cost a +ℤ costs arcs

-- a closed walk with room, which leaves no member twice and costs less than nothing
pub record IsGain (flows : List Flow) (arcs : List ℕ) : Type 0 where
  pub at_member : ℕ
  pub closed : IsWalk flows at_member arcs at_member
  pub roomy : All (λ a. (a < arc_count flows) × (0 < room flows a)) arcs
  pub once : AllPairs (λ a b. tail flows a ≢ tail flows b) arcs
  pub gains : costs arcs <ℤ pos 0

-- each level is a round of the one before, over this many members, by arcs of at least so much room
pub record IsTable (least : ℕ) (flows : List Flow) (members : ℕ) (levels : List (Vec Step Global)) : Type 0 where
  pub wide : All (λ level. length level.items ≡ members) levels
  pub rounds : (k : ℕ) (d : Vec Step Global) → suc k < length levels → IsRound least flows (slice_index_or levels k d).items (slice_index_or levels (suc k) d).items (arc_count flows)
