use Rattle.std.proofs.Common.{◌≡◌, ◌↔◌, ℕ, ◌<◌, true, get_or}
use Rattle.member_set.specs.Members.{has}
use Rattle.path_solver.proofs.balance.those_with.Given as goal

abbrev pub invariant-loop-member : goal.invariant-loop-member
invariant-loop-member l = (v : ℕ) → (has l.some v ≡ true) ↔ ((v < l.member) × (0 < get_or l.amounts v 0))
