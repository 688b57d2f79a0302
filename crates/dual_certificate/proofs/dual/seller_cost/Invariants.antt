use Rattle.std.proofs.Common.{◌≡◌, ℕ, ◌+◌, ◌*◌, ◌^◌, ◌<◌, ◌≤◌, length}
use Rattle.network_laws.specs.Limits.{int_sum_below, IsLimitCursor}
use Rattle.dual_certificate.specs.Bounds.{IsBetween, IsOpenPriced, rows_cost}
use Rattle.dual_certificate.proofs.dual.seller_cost.Given as goal

abbrev pub invariant-loop-buyer : goal.invariant-loop-buyer
invariant-loop-buyer l =
    ((j : ℕ) → j < l.buyer → IsOpenPriced l.limits l.potentials l.seller j) × (l.sum ≡ int_sum_below l.buyer (rows_cost l.limits l.potentials l.seller)) × IsBetween (2 ^ 98 * l.buyer) l.sum × (l.limit_at ≤ length l.limits) × IsLimitCursor l.limits l.limit_at (l.seller * 65536 + l.buyer)
