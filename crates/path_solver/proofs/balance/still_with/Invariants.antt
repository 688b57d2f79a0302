use Rattle.std.proofs.Common.{◌≡◌, ℕ, ◌<◌, ◌≤◌, ◌/◌, true, false, get_or}
use Rattle.member_set.specs.Members.{has, has_in, size_in}
use Rattle.path_solver.proofs.balance.still_with.Given as goal

abbrev pub invariant-loop-place : goal.invariant-loop-place
invariant-loop-place l = record {
  within : (v : ℕ) → has l.some v ≡ true → has l.fn.members v ≡ true;
  kept : (v : ℕ) → 0 < get_or l.amounts v 0 → has l.some v ≡ true;
  done : (v : ℕ) → has l.some v ≡ true → v / 64 < l.place → 0 < get_or l.amounts v 0;
}

abbrev pub invariant-loop-member : goal.invariant-loop-member
invariant-loop-member l = record {
  left : (v : ℕ) → has_in l.left v ≡ true → has l.fn.members v ≡ true;
  place : l.left.place ≡ l.place;
  within : (v : ℕ) → has l.some v ≡ true → has l.fn.members v ≡ true;
  kept : (v : ℕ) → 0 < get_or l.amounts v 0 → has l.some v ≡ true;
  done : (v : ℕ) → has l.some v ≡ true → v / 64 ≤ l.place → has_in l.left v ≡ false → 0 < get_or l.amounts v 0;
}

abbrev pub decreases-loop-member : goal.decreases-loop-member
decreases-loop-member l = size_in l.left
