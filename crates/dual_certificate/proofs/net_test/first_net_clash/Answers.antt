use Rattle.std.proofs.Common.{◌<◌, sym, arith}
use Rattle.network_laws.specs.Clash.{net_clash}
use Rattle.network_laws.specs.declared.clash.Clash.TheVariants.{Net}
use Rattle.network_laws.proofs.Clashes.{first_below-found, first_below-step}
use Rattle.net_positions.proofs.Totals.{sold_in-le, bought_in-le}
use Rattle.dual_certificate.proofs.Walked.{net_same, net_differs}
use Rattle.dual_certificate.proofs.net_test.first_net_clash.Goals as goal

pub overflow_add-after : goal.overflow_add-after
overflow_add-after c =
    let m = c.loop-member.member in
    let a = c.positions_of-after.ensures in
    let b = c.positions_of-before.ensures in
    let l : m < 256 = omega (arith, c.members-member-end.ensures.network.few, c.members-member-end.ensures.value) in
    omega (arith, a.totals.sold_each m l, b.totals.bought_each m l, sold_in-le c.args.new.now.rows m, bought_in-le c.args.old.now.rows m, a.network.rows.within, b.network.rows.within)

pub overflow_add-before : goal.overflow_add-before
overflow_add-before c =
    let m = c.loop-member.member in
    let a = c.positions_of-after.ensures in
    let b = c.positions_of-before.ensures in
    let l : m < 256 = omega (arith, c.members-member-end.ensures.network.few, c.members-member-end.ensures.value) in
    omega (arith, b.totals.sold_each m l, a.totals.bought_each m l, sold_in-le c.args.old.now.rows m, bought_in-le c.args.new.now.rows m, a.network.rows.within, b.network.rows.within)

pub returns-then-after-place : goal.returns-then-after-place
returns-then-after-place c =
    let m = c.loop-member.member in
    let a = c.positions_of-after.ensures in
    let b = c.positions_of-before.ensures in
    let l : m < 256 = omega (arith, c.members-member-end.ensures.network.few, c.members-member-end.ensures.value) in
    let here = net_differs c.args.old.now c.args.new.now m (λ e. c.if-after-place.true (omega (arith, e, a.totals.sold_each m l, b.totals.bought_each m l, b.totals.sold_each m l, a.totals.bought_each m l))) in
    sym (first_below-found c.args.old.now.members m (net_clash c.args.old.now c.args.new.now) (Net m) (omega (arith, c.members-member-end.ensures.value)) c.loop-member.invariant here)

pub loop-member-preserved : goal.loop-member-preserved
loop-member-preserved c =
    let m = c.loop-member.member in
    let a = c.positions_of-after.ensures in
    let b = c.positions_of-before.ensures in
    let l : m < 256 = omega (arith, c.members-member-end.ensures.network.few, c.members-member-end.ensures.value) in
    let here = net_same c.args.old.now c.args.new.now m (omega (arith, c.if-after-place.false, a.totals.sold_each m l, b.totals.bought_each m l, b.totals.sold_each m l, a.totals.bought_each m l)) in
    first_below-step m (net_clash c.args.old.now c.args.new.now) c.loop-member.invariant here
