use Rattle.std.proofs.Common.{arith}
use Rattle.std.proofs.lemmas.Int.{ints}
use Rattle.dual_certificate.proofs.Bounded.{costs_of_rows}
use Rattle.dual_certificate.proofs.dual.bound.Goals as goal

pub returns-clause-value : goal.returns-clause-value
returns-clause-value c =
    let limits = c.args.limits.now in
    let old = c.args.old.now in
    let p = c.args.potentials.now in
    let e = c.in-Some.ensures in
    let range = c.member_costs.ensures.range in
    omega (arith, ints, c.member_costs.ensures.value, range.low, range.high, e.1, e.2.low, e.2.high, costs_of_rows limits p c.members.result old.members c.rows.result.now c.members.ensures.value c.rows.ensures.value)
