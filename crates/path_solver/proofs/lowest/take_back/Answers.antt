use Rattle.std.proofs.Common.{◌≡◌, ℕ, ◌+◌, ◌*◌, ◌<◌, false, List, length, get_or, set, sym, ap, ◌∙◌, subst, arith}
use Rattle.std.proofs.lemmas.List.{length-set}
use Rattle.residual_graph.specs.declared.flow.Flow.{Flow}
use Rattle.residual_graph.specs.Residual.{ResidualData}
use Rattle.residual_graph.specs.Arcs.{flow_at, no_flow, pushed}
use Rattle.residual_graph.proofs.Kept.{few_pairs}
use Rattle.path_solver.specs.declared.balance.Balance.{Balance}
use Rattle.path_solver.proofs.TakenBack.{IsTakenBack, one_back, none_back, back_le, back_of, lowest_all}
use Rattle.path_solver.proofs.Straight.{path_one}
use Rattle.path_solver.proofs.Phased.{arc_is}
use Rattle.path_solver.proofs.lowest.take_back.Goals as goal
use Rattle.path_solver.proofs.lowest.take_back.Goals.{then-flow-gt0, else-flow-gt0}

pub bounds-flows-pair : goal.bounds-flows-pair
bounds-flows-pair g c =
    omega (arith, c.loop-pair-test.true, ap length c.flows.ensures.value, ap length c.flows-pair-end.ensures.value, c.loop-pair.invariant.taken.pairs.same_length)

pub overflow_cast-arc : goal.overflow_cast-arc
overflow_cast-arc g c = omega (arith, c.loop-pair-test.true, ap length c.flows-pair-end.ensures.value, few_pairs c.args.residual.now c.flows-pair-end.ensures.residual)

pub overflow_mul-arc : goal.overflow_mul-arc
overflow_mul-arc g c = omega (arith, c.loop-pair-test.true, ap length c.flows-pair-end.ensures.value, few_pairs c.args.residual.now c.flows-pair-end.ensures.residual)

pub overflow_add-arc : goal.overflow_add-arc
overflow_add-arc g c = omega (arith, c.loop-pair-test.true, ap length c.flows-pair-end.ensures.value, few_pairs c.args.residual.now c.flows-pair-end.ensures.residual)

pub add-requires-clause-surplus : goal.add-requires-clause-surplus
add-requires-clause-surplus g c =
    let f = get_or c.flows.result.now c.loop-pair.pair no_flow in
    let at : get_or c.flows.result.now c.loop-pair.pair no_flow ≡ flow_at c.loop-pair.residual.flows c.loop-pair.pair = ap (λ (fs : List Flow). get_or fs c.loop-pair.pair no_flow) c.flows.ensures.value in
    let l : c.loop-pair.pair < length c.loop-pair.residual.flows = omega (arith, c.loop-pair-test.true, ap length c.flows-pair-end.ensures.value, c.loop-pair.invariant.taken.pairs.same_length) in
    let le = back_le c.loop-pair.residual.flows c.loop-pair.pair l in
    omega (arith, le, ap (λ (g : Flow). g.back) at, c.loop-pair.invariant.taken.few_to_send f.seller, c.requires.gross)

pub add-requires-clause-lack : goal.add-requires-clause-lack
add-requires-clause-lack g c =
    let f = get_or c.flows.result.now c.loop-pair.pair no_flow in
    let at : get_or c.flows.result.now c.loop-pair.pair no_flow ≡ flow_at c.loop-pair.residual.flows c.loop-pair.pair = ap (λ (fs : List Flow). get_or fs c.loop-pair.pair no_flow) c.flows.ensures.value in
    let l : c.loop-pair.pair < length c.loop-pair.residual.flows = omega (arith, c.loop-pair-test.true, ap length c.flows-pair-end.ensures.value, c.loop-pair.invariant.taken.pairs.same_length) in
    let le = back_le c.loop-pair.residual.flows c.loop-pair.pair l in
    omega (arith, le, ap (λ (g : Flow). g.back) at, c.loop-pair.invariant.taken.few_to_receive f.buyer, c.requires.gross)

pub push_path-requires : goal.push_path-requires
push_path-requires g c =
    let k = c.loop-pair.pair in
    let flows = c.loop-pair.residual.flows in
    let at : get_or c.flows.result.now c.loop-pair.pair no_flow ≡ flow_at c.loop-pair.residual.flows c.loop-pair.pair = ap (λ (fs : List Flow). get_or fs c.loop-pair.pair no_flow) c.flows.ensures.value in
    let l : c.loop-pair.pair < length c.loop-pair.residual.flows = omega (arith, c.loop-pair-test.true, ap length c.flows-pair-end.ensures.value, c.loop-pair.invariant.taken.pairs.same_length) in
    let b = back_of k in
    let arc = arc_is flows (2 * k + 1) k false b.0 b.1 in
    path_one (get_or c.flows.result.now c.loop-pair.pair no_flow).back flows (2 * k + 1) (omega (arith, l)) (omega (arith, arc.0, ap (λ (g : Flow). g.back) at))

pub returns-clause-owed : goal.returns-clause-owed
returns-clause-owed g c =
    let inv = c.loop-pair.invariant in
    record {
      members = inv.members;
      pairs = inv.taken.pairs;
      lowest = lowest_all c.loop-pair.residual.flows c.loop-pair.pair inv.taken.lowest (omega (arith, c.loop-pair-test.false, ap length c.flows-pair-end.ensures.value, inv.taken.pairs.same_length));
      owed = inv.taken.owed;
      surplus = inv.surplus;
      lack = inv.lack;
    }

-- what was taken back, by other names
named : (old flows flows' : List Flow) (s s' l l' : List ℕ) (n : ℕ) → flows' ≡ flows → s' ≡ s → l' ≡ l → IsTakenBack old flows s l n → IsTakenBack old flows' s' l' n
named old flows flows' s s' l l' n is_f is_s is_l h =
    subst (λ fs. IsTakenBack old fs s' l' n) (sym is_f) (subst (λ xs. IsTakenBack old flows xs l' n) (sym is_s) (subst (λ xs. IsTakenBack old flows s xs n) (sym is_l) h))

pub loop-pair-preserved : goal.loop-pair-preserved
loop-pair-preserved g c =
    let inv = c.loop-pair.invariant in
    let k = c.loop-pair.pair in
    let start = c.args.residual.now.flows in
    let flows = c.loop-pair.residual.flows in
    let sends = c.loop-pair.balance.surplus.items in
    let lacks = c.loop-pair.balance.lack.items in
    let f = get_or c.flows.result.now c.loop-pair.pair no_flow in
    let at : get_or c.flows.result.now c.loop-pair.pair no_flow ≡ flow_at c.loop-pair.residual.flows c.loop-pair.pair = ap (λ (fs : List Flow). get_or fs c.loop-pair.pair no_flow) c.flows.ensures.value in
    let l : c.loop-pair.pair < length c.loop-pair.residual.flows = omega (arith, c.loop-pair-test.true, ap length c.flows-pair-end.ensures.value, inv.taken.pairs.same_length) in
    let good = c.flows.ensures.residual.good c.loop-pair.pair no_flow l in
    elim c.if-flow-gt0.branch [
      | then-flow-gt0 w ↦
          let one = one_back start flows sends lacks k f inv.taken l at
          (omega (arith, good.seller, ap (λ (g : Flow). g.seller) at, inv.members, inv.surplus))
          (omega (arith, good.buyer, ap (λ (g : Flow). g.buyer) at, inv.members, inv.lack)) in
          record {
            members = ap (λ (r : ResidualData). r.members) w.residual-is ∙ ap (λ (r : ResidualData). r.members) w.push_path.ensures.pushed ∙ inv.members;
            surplus = omega (arith, inv.surplus, ap (λ (b : Balance). length b.surplus.items) w.balance-is, ap length w.add.ensures.surplus, length-set sends f.seller (get_or sends f.seller 0 + f.back));
            lack = omega (arith, inv.lack, ap (λ (b : Balance). length b.lack.items) w.balance-is, ap length w.add.ensures.lack, length-set lacks f.buyer (get_or lacks f.buyer 0 + f.back));
            taken = named start (pushed f.back flows (2 * k + 1)) c.if-flow-gt0.residual.flows (set sends f.seller (get_or sends f.seller 0 + f.back)) c.if-flow-gt0.balance.surplus.items (set lacks f.buyer (get_or lacks f.buyer 0 + f.back)) c.if-flow-gt0.balance.lack.items (k + 1)
                (ap (λ (r : ResidualData). r.flows) w.residual-is ∙ ap (λ (r : ResidualData). r.flows) w.push_path.ensures.pushed) (ap (λ (b : Balance). b.surplus.items) w.balance-is ∙ w.add.ensures.surplus) (ap (λ (b : Balance). b.lack.items) w.balance-is ∙ w.add.ensures.lack) one;
            few = omega (arith, inv.few, w.steps-is, w.push_path.ensures.counted);
          }
      | else-flow-gt0 w ↦ record {
        members = ap (λ (r : ResidualData). r.members) w.residual-is ∙ inv.members;
        surplus = omega (arith, inv.surplus, ap (λ (b : Balance). length b.surplus.items) w.balance-is);
        lack = omega (arith, inv.lack, ap (λ (b : Balance). length b.lack.items) w.balance-is);
        taken = named start flows c.if-flow-gt0.residual.flows sends c.if-flow-gt0.balance.surplus.items lacks c.if-flow-gt0.balance.lack.items (k + 1) (ap (λ (r : ResidualData). r.flows) w.residual-is) (ap (λ (b : Balance). b.surplus.items) w.balance-is) (ap (λ (b : Balance). b.lack.items) w.balance-is)
            (none_back start flows sends lacks k inv.taken (omega (arith, w.if-flow-gt0.false, ap (λ (g : Flow). g.back) at)));
        few = omega (arith, inv.few, w.steps-is);
      }
    ]
