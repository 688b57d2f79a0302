use Rattle.std.proofs.Common.{◌≡◌, ℕ, ◌<◌, ◌≤◌, ◌/◌, true, false}
use Rattle.member_set.specs.Members.{has, has_in, size_in}
use Rattle.path_solver.specs.Entries.{is_entry}
use Rattle.path_solver.proofs.outside.around.Given as goal

abbrev pub invariant-loop-place : goal.invariant-loop-place
invariant-loop-place l = record {
  near : (u : ℕ) → has l.around u ≡ true → (h : ℕ) × (has l.set h ≡ true) × (is_entry l.entries h u ≡ true);
  all : (h u : ℕ) → has l.set h ≡ true → h / 64 < l.place → is_entry l.entries h u ≡ true → has l.around u ≡ true;
}

abbrev pub invariant-loop-here : goal.invariant-loop-here
invariant-loop-here l = record {
  left : (v : ℕ) → has_in l.left v ≡ true → has l.set v ≡ true;
  place : l.left.place ≡ l.place;
  near : (u : ℕ) → has l.around u ≡ true → (h : ℕ) × (has l.set h ≡ true) × (is_entry l.entries h u ≡ true);
  all : (h u : ℕ) → has l.set h ≡ true → h / 64 ≤ l.place → has_in l.left h ≡ false → is_entry l.entries h u ≡ true → has l.around u ≡ true;
}

abbrev pub decreases-loop-here : goal.decreases-loop-here
decreases-loop-here l = size_in l.left
