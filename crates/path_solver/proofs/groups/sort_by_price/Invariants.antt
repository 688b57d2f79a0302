use Rattle.std.proofs.Common.{◌≡◌, ◌↔◌, ℕ, ◌+◌, ◌<◌, true, false, length, get_or}
use Rattle.member_set.specs.Members.{has}
use Rattle.path_solver.specs.Groups.{group_at}
use Rattle.path_solver.proofs.groups.sort_by_price.Given as goal

-- the groups so far have no member
abbrev pub invariant-loop-group : goal.invariant-loop-group
invariant-loop-group l = (g v : ℕ) → g < l.group-index → has (group_at l.groups g) v ≡ false

-- the members before this one are in their groups
abbrev pub invariant-loop-member : goal.invariant-loop-member
invariant-loop-member l =
    (g v : ℕ) → g < length l.groups → (has (group_at l.groups g) v ≡ true) ↔ ((v < l.member) × (get_or l.prices v 0 + 1 ≡ g))
