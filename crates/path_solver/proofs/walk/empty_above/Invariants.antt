use Rattle.std.proofs.Common.{◌≡◌, ℕ, ◌<◌, ◌≤◌, false}
use Rattle.member_set.specs.Members.{has}
use Rattle.path_solver.specs.Levels.{layer_at}
use Rattle.path_solver.specs.Pruned.{AreFewer}
use Rattle.path_solver.proofs.walk.empty_above.Given as goal

abbrev pub invariant-loop-place : goal.invariant-loop-place
invariant-loop-place l = record {
  start : l.level < l.place;
  above : (k v : ℕ) → l.level < k → k < l.place → has (layer_at l.layers k) v ≡ false;
  below : (k : ℕ) → k ≤ l.level → layer_at l.layers k ≡ layer_at l.initial.layers k;
  fewer : AreFewer l.initial.layers l.layers;
}
