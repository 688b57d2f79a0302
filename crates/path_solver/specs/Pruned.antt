-- Layers out of which members are taken from which there is no way on.
use Rattle.std.specs.Prelude.{◌≡◌, ℕ, ◌+◌, ◌<◌, true, false, List, length, slice_index}
use Rattle.member_set.specs.declared.set.MemberSet.{MemberSet}
use Rattle.member_set.specs.Members.{has}
use Rattle.residual_graph.specs.declared.flow.Flow.{Flow}
use Rattle.residual_graph.specs.Arcs.{arc_count, tail, head}
use Rattle.path_solver.specs.Prices.{IsOpen}
use Rattle.path_solver.specs.Levels.{layer_at}

-- who is in none of the first n layers has no way on: on the lowest level nothing to receive, and on others no open arc
-- to the layer below
pub record ArePruned (flows : List Flow) (p lack levels : List ℕ) (layers : List MemberSet) (n : ℕ) : Type 0 where
  pub lowest : (v : ℕ) → 0 < n → v < length levels → slice_index levels v ≡ 0 → has (layer_at layers 0) v ≡ false → slice_index lack v ≡ 0
  pub others : (k a : ℕ) → k + 1 < n → a < arc_count flows → IsOpen flows p a → slice_index levels (tail flows a) ≡ k + 1 → has (layer_at layers (k + 1)) (tail flows a) ≡ false →
      has (layer_at layers k) (head flows a) ≡ false

-- each layer has no others than before
abbrev pub AreFewer : List MemberSet → List MemberSet → Type 0
AreFewer before after =
    (k v : ℕ) → has (layer_at after k) v ≡ true → has (layer_at before k) v ≡ true
