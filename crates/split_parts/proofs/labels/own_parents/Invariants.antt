use Rattle.std.proofs.Common.{◌≡◌, ℕ, ◌<◌, get_or, vec_len}
use Rattle.split_parts.proofs.labels.own_parents.Given as goal

abbrev pub invariant-loop-member : goal.invariant-loop-member
invariant-loop-member l = record {
  size : vec_len l.parents ≡ l.member;
  own : (k : ℕ) → k < l.member → get_or l.parents.items k 0 ≡ k;
}
