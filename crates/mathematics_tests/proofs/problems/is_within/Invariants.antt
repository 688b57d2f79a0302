use Rattle.std.proofs.Common.{ℕ, ◌<◌, ◌≤◌}
use Rattle.network_laws.specs.Networks.{at}
use Rattle.network_laws.specs.Limits.{lower, upper, IsWithin}
use Rattle.mathematics_tests.proofs.problems.is_within.Given as goal

abbrev pub invariant-loop-seller : goal.invariant-loop-seller
invariant-loop-seller l =
    (i j : ℕ) → i < l.seller → j < l.network.members → (lower l.limits i j ≤ at l.network i j) × IsWithin (at l.network i j) (upper l.limits i j)
