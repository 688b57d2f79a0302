use Rattle.std.proofs.Common.{◌≡◌, ℕ, true, false, get_or}
use Rattle.member_set.specs.Members.{has, size}
use Rattle.path_solver.proofs.search.mark.Given as goal

abbrev pub invariant-loop-here : goal.invariant-loop-here
invariant-loop-here l = record {
  left : (v : ℕ) → has l.left v ≡ true → has l.fn.members v ≡ true;
  marked : (v : ℕ) → has l.fn.members v ≡ true → has l.left v ≡ false → get_or l.levels v 0 ≡ l.level;
  others : (v : ℕ) → has l.fn.members v ≡ false → get_or l.levels v 0 ≡ get_or l.initial.levels v 0;
}

abbrev pub decreases-loop-here : goal.decreases-loop-here
decreases-loop-here l = size l.left
