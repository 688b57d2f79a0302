use Rattle.std.proofs.Common.{◌≡◌}
use Rattle.journal_tests.proofs.pools.has_these.Given as goal

abbrev pub invariant-loop-front : goal.invariant-loop-front
invariant-loop-front l = l.number ≡ l.front-index
