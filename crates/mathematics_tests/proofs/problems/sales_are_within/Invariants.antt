use Rattle.std.proofs.Common.{ℕ, ◌<◌, ◌≤◌}
use Rattle.network_laws.specs.Networks.{at}
use Rattle.network_laws.specs.Limits.{lower, upper, IsWithin}
use Rattle.mathematics_tests.proofs.problems.sales_are_within.Given as goal

abbrev pub invariant-loop-buyer : goal.invariant-loop-buyer
invariant-loop-buyer l =
    (j : ℕ) → j < l.buyer → (lower l.limits l.seller j ≤ at l.network l.seller j) × IsWithin (at l.network l.seller j) (upper l.limits l.seller j)
