use Rattle.std.proofs.Common.{◌≡◌, ℕ, ◌<◌, ◌/◌, true, false}
use Rattle.member_set.specs.Members.{has}
use Rattle.path_solver.specs.Entries.{is_open_to}
use Rattle.path_solver.proofs.neighbours.Neighbours.way_into.Given as goal

-- the members of the words before this one are none to which an open arc leads
abbrev pub invariant-loop-place : goal.invariant-loop-place
invariant-loop-place l = record {
  none : (u : ℕ) → has l.set u ≡ true → u / 64 < l.place → is_open_to l.self.exits.items l.groups l.price l.here u ≡ false;
}
