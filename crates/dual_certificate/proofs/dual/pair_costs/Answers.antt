use Rattle.std.proofs.Common.{◌<◌, ℕ, arith, below_more}
use Rattle.std.proofs.lemmas.Int.{ints}
use Rattle.network_laws.proofs.Sums.{int_sum_below-next}
use Rattle.dual_certificate.specs.Bounds.{IsOpenPriced, seller_sum}
use Rattle.dual_certificate.proofs.dual.pair_costs.Goals as goal

pub loop-seller-preserved : goal.loop-seller-preserved
loop-seller-preserved c =
    let limits = c.args.limits.now in
    let p = c.args.potentials.now in
    let n = c.args.members in
    let s = c.loop-seller.seller in
    let inv = c.loop-seller.invariant in
    let new = c.in-Some.ensures in (
      λ i j in_i in_j. below_more (λ i. (j : ℕ) → j < n → IsOpenPriced limits p i j) s (λ i in_i j in_j. inv.0 i j in_i in_j) new.0 i in_i j in_j,
      omega (arith, ints, int_sum_below-next s (seller_sum limits p n), inv.1, inv.2.low, inv.2.high, new.1, new.2.low, new.2.high),
      record { low = omega (arith, ints, inv.2.low, inv.2.high, new.2.low, new.2.high); high = omega (arith, ints, inv.2.low, inv.2.high, new.2.low, new.2.high) },
    )
