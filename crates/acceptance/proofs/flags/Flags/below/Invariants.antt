use Rattle.std.proofs.Common.{◌≡◌, ℕ, nat_lt}
use Rattle.acceptance.specs.Votes.{is_flagged}
use Rattle.acceptance.proofs.flags.Flags.below.Given as goal

abbrev pub invariant-loop-place : goal.invariant-loop-place
invariant-loop-place l = (m : ℕ) → is_flagged l.all.words m ≡ nat_lt m l.place
