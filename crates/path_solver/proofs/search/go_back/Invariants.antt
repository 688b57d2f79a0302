use Rattle.std.proofs.Common.{◌≡◌, ◌↔◌, ℕ, ◌<◌, ◌≤◌, true, length, get_or}
use Rattle.member_set.specs.Members.{has}
use Rattle.path_solver.specs.Searches.{AreCutOff}
use Rattle.path_solver.proofs.search.go_back.Given as goal

abbrev pub invariant-loop-left : goal.invariant-loop-left
invariant-loop-left l = record {
  lower : l.level ≤ l.search.level;
  cut_off : AreCutOff l.level l.initial.levels l.levels;
  seen : (v : ℕ) → (has l.seen v ≡ true) ↔ ((v < length l.initial.levels) × (get_or l.initial.levels v 0 < l.level));
  left : (v : ℕ) → (has l.left v ≡ true) ↔ ((has l.entered v ≡ true) × (get_or l.initial.levels v 0 < l.level));
}

abbrev pub decreases-loop-left : goal.decreases-loop-left
decreases-loop-left l = l.level
