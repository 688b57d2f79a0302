use Rattle.std.proofs.Common.{◌^◌, arith, rules, SFits, ◌*ℤ◌}
use Rattle.std.specs.Int.{w128}
use Rattle.std.proofs.lemmas.Int.{ints, to_z-of_z}
use Rattle.dual_certificate.specs.Bounds.{IsBetween}
use Rattle.dual_certificate.proofs.Between.{mul_between}
use Rattle.dual_certificate.proofs.dual.priced_net.Goals as goal

pub returns-clause-range : goal.returns-clause-range
returns-clause-range c =
    let a : IsBetween (2 ^ 31) c.from.result = record { low = omega (arith, ints); high = omega (arith, ints) } in
    let b : IsBetween (2 ^ 63) c.from-2.result = record { low = omega (arith, ints); high = omega (arith, ints) } in
    let h = mul_between (2 ^ 31) (2 ^ 63) c.from.result c.from-2.result a b in
    let f : SFits w128 c.from.result = search rules in
    let f2 : SFits w128 c.from-2.result = search rules in
    let fits : SFits w128 (c.from.result *ℤ c.from-2.result) = omega (arith, ints, h.low, h.high) in
    simp to_z-of_z h
