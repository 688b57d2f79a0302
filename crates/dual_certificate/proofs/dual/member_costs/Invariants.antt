use Rattle.std.proofs.Common.{◌≡◌, ◌*◌, ◌^◌}
use Rattle.network_laws.specs.Limits.{int_sum_below, member_cost}
use Rattle.dual_certificate.specs.Bounds.{IsBetween}
use Rattle.dual_certificate.proofs.dual.member_costs.Given as goal

abbrev pub invariant-loop-member : goal.invariant-loop-member
invariant-loop-member l =
    (l.sum ≡ int_sum_below l.member (member_cost l.potentials l.old)) × IsBetween (2 ^ 94 * l.member) l.sum
