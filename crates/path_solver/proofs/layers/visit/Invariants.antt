use Rattle.std.proofs.Common.{◌≡◌, ℕ, ◌<◌, ◌≤◌, ◌/◌, true, false, get_or}
use Rattle.member_set.specs.Members.{has, has_in, size_in}
use Rattle.path_solver.specs.Entries.{IsOpenInto, is_open_to}
use Rattle.path_solver.proofs.layers.visit.Given as goal

abbrev pub invariant-loop-place : goal.invariant-loop-place
invariant-loop-place l = record {
  marked : (v : ℕ) → has l.fn.members v ≡ true → v / 64 < l.place → get_or l.levels v 0 ≡ l.level;
  others : (v : ℕ) → has l.fn.members v ≡ false → get_or l.levels v 0 ≡ get_or l.initial.levels v 0;
  near : (u : ℕ) → has l.near u ≡ true → IsOpenInto l.entries l.aim.groups.now l.aim.prices.now l.fn.members u;
  all : (h u : ℕ) → has l.fn.members h ≡ true → h / 64 < l.place → is_open_to l.entries l.aim.groups.now (get_or l.aim.prices.now h 0) h u ≡ true → has l.near u ≡ true;
}

abbrev pub invariant-loop-here : goal.invariant-loop-here
invariant-loop-here l = record {
  left : (v : ℕ) → has_in l.left v ≡ true → has l.fn.members v ≡ true;
  place : l.left.place ≡ l.place;
  marked : (v : ℕ) → has l.fn.members v ≡ true → v / 64 ≤ l.place → has_in l.left v ≡ false → get_or l.levels v 0 ≡ l.level;
  others : (v : ℕ) → has l.fn.members v ≡ false → get_or l.levels v 0 ≡ get_or l.initial.levels v 0;
  near : (u : ℕ) → has l.near u ≡ true → IsOpenInto l.entries l.aim.groups.now l.aim.prices.now l.fn.members u;
  all : (h u : ℕ) → has l.fn.members h ≡ true → h / 64 ≤ l.place → has_in l.left h ≡ false → is_open_to l.entries l.aim.groups.now (get_or l.aim.prices.now h 0) h u ≡ true → has l.near u ≡ true;
}

abbrev pub decreases-loop-here : goal.decreases-loop-here
decreases-loop-here l = size_in l.left
