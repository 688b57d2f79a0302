use Rattle.std.proofs.Common.{◌≡◌, ◌<◌, pos, ◌*ℤ◌, get_or, arith, rules, w32, w64, SFits, ap, ◌∙◌}
use Rattle.std.proofs.lemmas.Int.{ints, to_z-of_z}
use Rattle.network_laws.specs.Networks.{net}
use Rattle.network_laws.specs.Limits.{member_cost, potential}
use Rattle.network_laws.proofs.Sums.{int_sum_below-next}
use Rattle.net_positions.proofs.Totals.{sold_in-le, bought_in-le}
use Rattle.dual_certificate.proofs.dual.member_costs.Goals as goal

pub difference-net-requires-clause-sold : goal.difference-net-requires-clause-sold
difference-net-requires-clause-sold c =
    let m = c.loop-member.member in
    let e = c.positions_of-positions.ensures in
    omega (arith, e.totals.sold_each m (omega (arith, c.members-member-end.ensures.value, e.network.few)), sold_in-le c.args.old.now.rows m, e.network.rows.within)

pub difference-net-requires-clause-bought : goal.difference-net-requires-clause-bought
difference-net-requires-clause-bought c =
    let m = c.loop-member.member in
    let e = c.positions_of-positions.ensures in
    omega (arith, e.totals.bought_each m (omega (arith, c.members-member-end.ensures.value, e.network.few)), bought_in-le c.args.old.now.rows m, e.network.rows.within)

pub loop-member-preserved : goal.loop-member-preserved
loop-member-preserved c =
    let p = c.args.potentials.now in
    let old = c.args.old.now in
    let m = c.loop-member.member in
    let t = c.positions_of-positions.ensures in
    let l : m < 256 = omega (arith, c.members-member-end.ensures.value, t.network.few) in
    let fp : SFits w32 (get_or p m (pos 0)) = search rules in
    let fn : SFits w64 c.difference-net.result = search rules in
    let is_net : c.difference-net.result ≡ net old m = omega (arith, ints, c.difference-net.ensures, t.totals.sold_each m l, t.totals.bought_each m l) in
    let v = simp to_z-of_z at c.priced_net-sum.ensures.value in
    let w : c.priced_net-sum.result ≡ member_cost p old m = v ∙ ap (λ x. potential p m *ℤ x) is_net in
    (omega (arith, ints, int_sum_below-next m (member_cost p old)), record { low = omega (arith, ints, c.loop-member.invariant.1.low, c.priced_net-sum.ensures.range.low); high = omega (arith, ints, c.loop-member.invariant.1.high, c.priced_net-sum.ensures.range.high) })
