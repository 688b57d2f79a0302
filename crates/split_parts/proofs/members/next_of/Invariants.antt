use Rattle.std.proofs.Common.{◌≡◌, ◌≤◌, ◌<◌, ◌+◌, ℕ, length, get_or}
use Rattle.split_parts.specs.Labels.{IsFirstFrom}
use Rattle.split_parts.proofs.members.next_of.Given as goal

abbrev pub invariant-loop-member : goal.invariant-loop-member
invariant-loop-member l = record {
  within : l.member ≤ length l.labels;
  size_nearest : length l.nearest.items ≡ length l.labels;
  size_next : length l.next.items ≡ length l.labels;
  nearest : (label : ℕ) → label < length l.labels → IsFirstFrom l.labels l.member label (get_or l.nearest.items label 0);
  next : (m : ℕ) → l.member ≤ m → m < length l.labels → IsFirstFrom l.labels (m + 1) (get_or l.labels m 0) (get_or l.next.items m 0);
}

abbrev pub decreases-loop-member : goal.decreases-loop-member
decreases-loop-member l = l.member
