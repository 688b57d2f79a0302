use Rattle.std.proofs.Common.{◌≡◌, ◌<◌, ◌≤◌, ℕ, false}
use Rattle.std.specs.Prelude.{slice_get}
use Rattle.command_types.specs.Tolerances.{is_dealer_row}
use Rattle.tolerance_sets.proofs.limits.dealers_end.Given as goal

abbrev pub invariant-loop-place : goal.invariant-loop-place
invariant-loop-place l = (k : ℕ) → l.end ≤ k → k < l.place → is_dealer_row (slice_get l.members k) ≡ false
