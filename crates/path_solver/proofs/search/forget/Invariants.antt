use Rattle.std.proofs.Common.{◌≡◌, ℕ, ◌<◌, get_or}
use Rattle.path_solver.proofs.search.forget.Given as goal

abbrev pub invariant-loop-level : goal.invariant-loop-level
invariant-loop-level l = (v : ℕ) → v < l.level-index → get_or l.levels v 0 ≡ 65535
