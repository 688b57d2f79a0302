use Rattle.std.proofs.Common.{◌≡◌, ℕ, ◌*◌, ◌^◌, ◌<◌}
use Rattle.network_laws.specs.Limits.{int_sum_below}
use Rattle.dual_certificate.specs.Bounds.{IsBetween, IsOpenPriced, seller_sum}
use Rattle.dual_certificate.proofs.dual.pair_costs.Given as goal

abbrev pub invariant-loop-seller : goal.invariant-loop-seller
invariant-loop-seller l =
    ((i j : ℕ) → i < l.seller → j < l.members → IsOpenPriced l.limits l.potentials i j) × (l.sum ≡ int_sum_below l.seller (seller_sum l.limits l.potentials l.members)) × IsBetween (2 ^ 106 * l.seller) l.sum
