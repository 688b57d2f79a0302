use Rattle.std.proofs.Common.{◌≡◌, ℕ, ◌<◌, get_or}
use Rattle.member_set.proofs.set.MemberSet.take_lowest.Given as goal

-- no word before this one has a member
abbrev pub invariant-loop-place : goal.invariant-loop-place
invariant-loop-place l = record {
  before : (k : ℕ) → k < l.place → get_or l.self.words k 0 ≡ 0;
  same : l.self.words ≡ l.initial.self.words;
}
