use Rattle.std.proofs.Common.{◌≡◌, ℕ, ◌<◌, ◌≤◌, ◌/◌, true, false, get_or}
use Rattle.member_set.specs.Members.{has, has_in, size_in}
use Rattle.path_solver.specs.Entries.{is_open_to}
use Rattle.path_solver.proofs.outside.entered_from.Given as goal

abbrev pub invariant-loop-place : goal.invariant-loop-place
invariant-loop-place l = record {
  all : (u h : ℕ) → has l.members u ≡ true → u / 64 < l.place → is_open_to l.exits l.groups (get_or l.prices u 0) u h ≡ true → has l.open h ≡ true;
}

abbrev pub invariant-loop-here : goal.invariant-loop-here
invariant-loop-here l = record {
  left : (v : ℕ) → has_in l.left v ≡ true → has l.members v ≡ true;
  place : l.left.place ≡ l.place;
  all : (u h : ℕ) → has l.members u ≡ true → u / 64 ≤ l.place → has_in l.left u ≡ false → is_open_to l.exits l.groups (get_or l.prices u 0) u h ≡ true → has l.open h ≡ true;
}

abbrev pub decreases-loop-here : goal.decreases-loop-here
decreases-loop-here l = size_in l.left
