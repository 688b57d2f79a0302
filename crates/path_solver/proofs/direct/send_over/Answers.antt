use Rattle.std.proofs.Common.{◌≡◌, ◌*◌, ◌<◌, true, List, length, get_or, sym, ap, arith}
use Rattle.residual_graph.specs.declared.flow.Flow.{Flow}
use Rattle.residual_graph.specs.Residual.{ResidualData}
use Rattle.residual_graph.specs.Arcs.{flow_at, no_flow}
use Rattle.residual_graph.proofs.Kept.{few_pairs}
use Rattle.path_solver.proofs.Straight.{path_one, sent_straight}
use Rattle.path_solver.proofs.Phased.{forward_of, arc_is}
use Rattle.path_solver.proofs.direct.send_over.Goals as goal

pub overflow_cast-arc : goal.overflow_cast-arc
overflow_cast-arc g c = omega (arith, c.requires.pair, few_pairs c.args.residual.now c.flows.ensures.residual)

pub overflow_mul-arc : goal.overflow_mul-arc
overflow_mul-arc g c = omega (arith, c.requires.pair, few_pairs c.args.residual.now c.flows.ensures.residual)

pub push_path-requires : goal.push_path-requires
push_path-requires g c =
    let k = c.args.pair in
    let at : get_or c.flows.result.now c.args.pair no_flow ≡ flow_at c.args.residual.now.flows c.args.pair = ap (λ (fs : List Flow). get_or fs c.args.pair no_flow) c.flows.ensures.value in
    let there = forward_of k in
    let arc = arc_is c.args.residual.now.flows (2 * k) k true there.0 there.1 in
    path_one c.min-amount.result c.args.residual.now.flows (2 * k) (omega (arith, c.requires.pair)) (omega (arith, arc.0, c.min-amount.ensures, ap (λ (g : Flow). g.room) at))

pub returns-then-amount-gt0-clause-along : goal.returns-then-amount-gt0-clause-along
returns-then-amount-gt0-clause-along g c =
    let k = c.args.pair in
    let f = get_or c.flows.result.now c.args.pair no_flow in
    let at : get_or c.flows.result.now c.args.pair no_flow ≡ flow_at c.args.residual.now.flows c.args.pair = ap (λ (fs : List Flow). get_or fs c.args.pair no_flow) c.flows.ensures.value in
    let in_k : c.args.pair < length c.args.residual.now.flows = c.requires.pair in
    let good = c.flows.ensures.residual.good c.args.pair no_flow in_k in
    let at_s = ap (λ (g : Flow). g.seller) at in
    let at_b = ap (λ (g : Flow). g.buyer) at in
    let some = c.if-amount-gt0.true in
    let sends = c.requires.first.senders f.seller (omega (arith, some, c.min-amount.ensures, c.between-both.ensures)) in
    let receives = c.requires.first.receivers f.buyer (omega (arith, some, c.min-amount.ensures, c.between-both.ensures)) in
    rw (c.take_off.ensures.surplus, c.take_off.ensures.lack)
    (sent_straight c.args.prices.now c.args.residual.now c.push_path.new.self c.args.balance.now.surplus.items c.args.balance.now.lack.items k f.seller f.buyer c.min-amount.result in_k (sym at_s) (sym at_b)
    (omega (arith, c.min-amount.ensures, ap (λ (g : Flow). g.room) at))
    some
    (omega (arith, sends, receives))
    (omega (arith, good.seller, at_s, c.requires.first.surplus))
    (omega (arith, good.buyer, at_b, c.requires.first.lack))
    (omega (arith, good.buyer, at_b, c.requires.first.prices))
    (omega (arith, c.min-amount.ensures, c.between-both.ensures))
    (omega (arith, c.min-amount.ensures, c.between-both.ensures))
    (ap (λ (r : ResidualData). r.members) c.push_path.ensures.pushed)
    (ap (λ (r : ResidualData). r.flows) c.push_path.ensures.pushed))
