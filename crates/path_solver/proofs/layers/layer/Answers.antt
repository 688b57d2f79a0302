use Rattle.std.proofs.Common.{◌≡◌, ◌+◌, get_or, set, sym, ◌∙◌, subst, arith, true≢false}
use Rattle.path_solver.specs.Entries.{AreEntries}
use Rattle.path_solver.specs.Levels.{AreLayers, AreWholeLayers}
use Rattle.std.proofs.lemmas.Bool.{and_from, and_parts}
use Rattle.member_set.specs.Members.{has}
use Rattle.path_solver.proofs.Spreads.{few_levels, spread_found, shortest_found, spread_more, spread_cut, layers_more, whole_more}
use Rattle.path_solver.proofs.layers.layer.Goals as goal

pub spreads-init : goal.spreads-init
spreads-init c = record {
  spread = c.requires.searched.spread;
  layers = c.requires.searched.passed;
  whole = c.requires.searched.whole;
}

pub returns-in-Some-clause-layered : goal.returns-in-Some-clause-layered
returns-in-Some-clause-layered c =
    let met = c.in-Some.ensures.member in
    let both = and_parts (has c.spreads.now c.in-Some.source) (has c.args.aim.now.senders.now c.in-Some.source) (sym (c.and-met.ensures c.in-Some.source) ∙ met) in
    spread_found c.requires.work.residual c.spreads.invariant.spread c.mark.new.levels
    c.and-met.result (λ v on. (and_parts (has c.spreads.now v) (has c.args.aim.now.senders.now v) (sym (c.and-met.ensures v) ∙ on)).0)
    c.mark.auto.levels c.mark.ensures.marked c.mark.ensures.others c.in-Some.source met ((c.requires.senders c.in-Some.source).0 both.1)

pub returns-in-Some-clause-shortest : goal.returns-in-Some-clause-shortest
returns-in-Some-clause-shortest c =
    shortest_found c.requires.work.residual c.spreads.invariant.spread c.mark.new.levels
    c.and-met.result (λ v on. (and_parts (has c.spreads.now v) (has c.args.aim.now.senders.now v) (sym (c.and-met.ensures v) ∙ on)).0)
    c.mark.auto.levels c.mark.ensures.marked c.mark.ensures.others
    (λ v on sends. c.and-met.ensures v ∙ and_from (has c.spreads.now v) (has c.args.aim.now.senders.now v) on ((c.requires.senders v).1 sends))
    c.in-Some.source c.in-Some.ensures.member (sym c.requires.work.surplus) (sym c.requires.work.lack)

pub overflow_add-level : goal.overflow_add-level
overflow_add-level c =
    let few = few_levels c.requires.work.residual c.spreads.invariant.spread in
    omega (arith, few, c.requires.work.residual.few)

pub spreads-smaller : goal.spreads-smaller
spreads-smaller c =
    let few = few_levels c.requires.work.residual c.spreads.invariant.spread in
    omega (arith, few)

pub spreads-preserved : goal.spreads-preserved
spreads-preserved c =
    let inv = c.spreads.invariant.spread in
    let one = c.is_empty.ensures.some c.spreads-test.true in
    let spread = spread_more c.requires.work.residual inv c.visit-near.new.levels
    c.visit-near.result c.without-now.result c.or-seen.result (subst (AreEntries c.args.work.now.residual) (sym c.deref-entries.ensures.value) c.requires.work.neighbours.entries) c.requires.sorted
    c.visit-near.auto.levels c.visit-near.ensures.marked c.visit-near.ensures.others one.0 one.1
    (λ v on sends. true≢false (sym (c.and-met.ensures v ∙ and_from (has c.spreads.now v) (has c.args.aim.now.senders.now v) on ((c.requires.senders v).1 sends)) ∙ c.is_empty-in-spreads.ensures.none.0 c.if-not-is_empty.false v))
    c.visit-near.ensures.near c.visit-near.ensures.all c.or-seen.ensures c.without-now.ensures in
    record {
      spread = spread;
      layers = layers_more c.requires.work.residual inv c.visit-near.new.levels
          c.spreads.now (λ v on. on) c.visit-near.auto.levels c.visit-near.ensures.marked c.visit-near.ensures.others c.spreads.layers (omega (arith, few_levels c.requires.work.residual inv, c.requires.layers, c.spreads.auto.layers)) c.spreads.invariant.layers;
      whole = whole_more c.requires.work.residual inv c.visit-near.new.levels
          c.spreads.now (λ v on. on) c.visit-near.auto.levels c.visit-near.ensures.marked c.visit-near.ensures.others c.spreads.layers (omega (arith, few_levels c.requires.work.residual inv, c.requires.layers, c.spreads.auto.layers)) c.spreads.invariant.whole;
    }

pub returns-clause-layered : goal.returns-clause-layered
returns-clause-layered c =
    spread_cut c.requires.work.residual c.spreads.invariant.spread
    (sym c.requires.work.lack) (c.is_empty.ensures.none.0 c.spreads-test.false)

pub returns-clause-searched : goal.returns-clause-searched
returns-clause-searched c none = record {
  spread = c.spreads.invariant.spread;
  passed = c.spreads.invariant.layers;
  whole = c.spreads.invariant.whole;
}

pub returns-in-Some-clause-layers : goal.returns-in-Some-clause-layers
returns-in-Some-clause-layers c =
    let at : get_or c.mark.new.levels c.in-Some.source 0 ≡ c.spreads.level = c.mark.ensures.marked c.in-Some.source c.in-Some.ensures.member in
    let few = few_levels c.requires.work.residual c.spreads.invariant.spread in
    subst (λ n. AreLayers c.mark.new.levels (set c.spreads.layers c.spreads.level c.and-met.result) (n + 1)) (sym at)
    (layers_more c.requires.work.residual c.spreads.invariant.spread c.mark.new.levels
    c.and-met.result (λ v on. (and_parts (has c.spreads.now v) (has c.args.aim.now.senders.now v) (sym (c.and-met.ensures v) ∙ on)).0)
    c.mark.auto.levels c.mark.ensures.marked c.mark.ensures.others c.spreads.layers (omega (arith, few, c.requires.layers, c.spreads.auto.layers)) c.spreads.invariant.layers)

pub returns-in-Some-clause-whole : goal.returns-in-Some-clause-whole
returns-in-Some-clause-whole c =
    let at : get_or c.mark.new.levels c.in-Some.source 0 ≡ c.spreads.level = c.mark.ensures.marked c.in-Some.source c.in-Some.ensures.member in
    let few = few_levels c.requires.work.residual c.spreads.invariant.spread in
    subst (λ n. AreWholeLayers c.mark.new.levels (set c.spreads.layers c.spreads.level c.and-met.result) (n + 1)) (sym at)
    (whole_more c.requires.work.residual c.spreads.invariant.spread c.mark.new.levels
    c.and-met.result (λ v on. (and_parts (has c.spreads.now v) (has c.args.aim.now.senders.now v) (sym (c.and-met.ensures v) ∙ on)).0)
    c.mark.auto.levels c.mark.ensures.marked c.mark.ensures.others c.spreads.layers (omega (arith, few, c.requires.layers, c.spreads.auto.layers)) c.spreads.invariant.whole)

pub returns-in-Some-clause-low : goal.returns-in-Some-clause-low
returns-in-Some-clause-low c =
    let few = few_levels c.requires.work.residual c.spreads.invariant.spread in
    omega (arith, few, c.mark.ensures.marked c.in-Some.source c.in-Some.ensures.member)

pub bounds-layers-level : goal.bounds-layers-level
bounds-layers-level c =
    let few = few_levels c.requires.work.residual c.spreads.invariant.spread in
    omega (arith, few, c.requires.layers, c.spreads.auto.layers)

pub bounds-layers-level-in-spreads : goal.bounds-layers-level-in-spreads
bounds-layers-level-in-spreads c =
    let few = few_levels c.requires.work.residual c.spreads.invariant.spread in
    omega (arith, few, c.requires.layers, c.spreads.auto.layers)
