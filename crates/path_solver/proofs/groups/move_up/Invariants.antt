use Rattle.std.proofs.Common.{◌≡◌, ℕ, ◌-◌, ◌<◌, ◌≤◌, ◌&&◌, not}
use Rattle.member_set.specs.Members.{has}
use Rattle.path_solver.specs.Groups.{group_at, is_moved_to}
use Rattle.path_solver.proofs.groups.move_up.Given as goal

abbrev pub invariant-loop-place : goal.invariant-loop-place
invariant-loop-place l = record {
  moved : (g v : ℕ) → 0 < g → g < l.place → has (group_at l.groups g) v ≡ is_moved_to l.initial.groups l.stay g v;
  lowest : group_at l.groups 0 ≡ group_at l.initial.groups 0;
  others : (g : ℕ) → l.place ≤ g → group_at l.groups g ≡ group_at l.initial.groups g;
  leaving : (v : ℕ) → has l.leaving v ≡ (has (group_at l.initial.groups (l.place - 1)) v && not (has l.stay v));
}
