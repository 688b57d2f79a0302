use Rattle.std.proofs.Common.{◌≡◌, ◌+◌, ◌-◌, ◌<◌, true, false, length, set, refl, sym, ◌∙◌, subst, arith}
use Rattle.member_set.specs.Members.{has}
use Rattle.path_solver.specs.Levels.{layer_at}
use Rattle.path_solver.specs.Labels.{top_of, IsTrailFrom}
use Rattle.path_solver.proofs.Trails.{trail_down, trail_up, trail_path, layers_less, in_layers_less}
use Rattle.path_solver.proofs.Ways.{way_leads, stuck_above, some_way}
use Rattle.path_solver.proofs.Pruned.{IsStuck, pruned_taken, pruned_emptied, out_above, layers_fewer, fewer_taken, fewer_more, out_now}
use Rattle.path_solver.proofs.walk.walk.Goals as goal
use Rattle.path_solver.proofs.walk.walk.Goals.{then-level-eq0+else-lack_of-gt0, else-level-eq0+in_default}

pub returns-then-lack_of-gt0-clause-path : goal.returns-then-lack_of-gt0-clause-path
returns-then-lack_of-gt0-clause-path c =
    trail_path c.args.work.now.balance.lack.items
    (rw c.if-level-eq0.true at c.steps.invariant.trail)
    (omega (arith, c.requires.trip.top, c.requires.trip.path, c.steps.auto.path)) refl c.requires.trip.labels.levels (omega (arith, c.if-lack_of-gt0.true, c.lack_of.ensures))

pub returns-then-lack_of-gt0-clause-trail : goal.returns-then-lack_of-gt0-clause-trail
returns-then-lack_of-gt0-clause-trail c =
    rw c.if-level-eq0.true at c.steps.invariant.trail

pub way_into-requires-clause-few : goal.way_into-requires-clause-few
way_into-requires-clause-few c = omega (arith, c.requires.trip.work.neighbours.exits.one_each, c.requires.trip.work.residual.few)

pub way_into-requires-clause-set : goal.way_into-requires-clause-set
way_into-requires-clause-set c u on =
    omega (arith, (c.steps.invariant.layers (c.steps.level - 1) u (omega (arith, c.steps.invariant.trail.within)) on).0, c.requires.trip.labels.levels, c.requires.trip.work.neighbours.rows.one_each)

pub steps-preserved-in-Some : goal.steps-preserved-in-Some
steps-preserved-in-Some c =
    let inv = c.steps.invariant in
    let way = c.in-Some.ensures.way in
    let leads =
    way_leads c.steps.here c.requires.trip.work.residual c.requires.trip.work.neighbours c.requires.trip.labels.sorted c.steps.invariant.trail.member (layer_at c.steps.layers (c.steps.level - 1)) c.in-Some.exit way in
    let above : c.steps.level ≡ c.steps.level - 1 + 1 = omega (arith, c.if-level-eq0.false) in
    let at = (inv.layers (c.steps.level - 1) c.in-Some.exit.head (omega (arith, inv.trail.within)) way.inside).1 in
    record {
      trail = subst (λ n. IsTrailFrom c.args.work.now c.args.trip.now c.steps.layers (set c.steps.path (top_of c.args.trip.now - n) c.in-Some.exit.arc) (c.steps.level - 1) c.in-Some.exit.head) (sym above)
          (trail_down c.requires.trip.work.residual (c.steps.level - 1)
          (subst (λ n. IsTrailFrom c.args.work.now c.args.trip.now c.steps.layers c.steps.path n c.steps.here) above inv.trail)
          leads (omega (arith, c.if-level-eq0.false, inv.trail.within, c.requires.trip.top, c.requires.trip.path, c.steps.auto.path)) at way.inside);
      layers = inv.layers;
      pruned = inv.pruned;
      fewer = inv.fewer;
      whole = inv.whole;
    }

pub drop_member-requires : goal.drop_member-requires
drop_member-requires c = omega (arith, c.steps.invariant.trail.member, c.requires.trip.work.residual.few)

pub returns-then-level-top-clause-fresh : goal.returns-then-level-top-clause-fresh
returns-then-level-top-clause-fresh c levels whole =
    let stuck : ⊥ =
    elim c.if-level-eq0.branch [
      | then-level-eq0+else-lack_of-gt0 w ↦
          omega (arith, levels.lowest c.steps.here (omega (arith, c.steps.invariant.trail.member, c.requires.trip.labels.levels)) (c.steps.invariant.trail.level ∙ w.if-level-eq0.true), w.if-lack_of-gt0.false, w.lack_of.ensures)
      | else-level-eq0+in_default w ↦
          some_way c.steps.here c.requires.trip.work.residual c.requires.trip.work.neighbours c.requires.trip.labels.sorted c.steps.invariant.trail.member
          c.steps.layers c.steps.level (top_of c.args.trip.now + 1) levels (rw (c.steps.invariant.whole levels whole) whole)
          c.requires.trip.labels.levels c.steps.invariant.trail.level (omega (arith, w.if-level-eq0.false)) (omega (arith, c.steps.invariant.trail.within, c.requires.trip.top, c.requires.trip.work.residual.few)) (omega (arith, c.steps.invariant.trail.within))
          (w.in_default.ensures.none refl)
    ] in
    absurd stuck

pub steps-smaller : goal.steps-smaller
steps-smaller c =
    let less : c.steps.level < top_of c.args.trip.now = omega (arith, c.if-level-top.false, c.steps.invariant.trail.within) in
    omega (
      arith,
      in_layers_less c.steps.layers c.steps.level c.drop_member.new.self c.steps.here (omega (arith, less, c.requires.trip.top, c.requires.trip.room, c.steps.auto.layers)) c.drop_member.ensures
          (omega (arith, c.steps.invariant.trail.member, c.requires.trip.work.residual.few))
          (subst (λ v. has (layer_at c.steps.layers c.steps.level) v ≡ true) (c.steps.invariant.trail.start less) (c.steps.invariant.trail.kept c.steps.level (omega arith) less)),
    )

pub returns-then-level-top-clause-layers : goal.returns-then-level-top-clause-layers
returns-then-level-top-clause-layers c =
    let inside : c.steps.level < length c.steps.layers = omega (arith, c.steps.invariant.trail.within, c.requires.trip.top, c.requires.trip.room, c.steps.auto.layers) in
    layers_less c.args.trip.now.labels.now.levels.now c.steps.layers (top_of c.args.trip.now + 1) c.steps.level c.drop_member.new.self c.steps.here inside c.drop_member.ensures c.steps.invariant.layers

pub tail-here-requires : goal.tail-here-requires
tail-here-requires c =
    let less : c.steps.level < top_of c.args.trip.now = omega (arith, c.if-level-top.false, c.steps.invariant.trail.within) in
    (c.steps.invariant.trail.rungs c.steps.level (omega arith) less).arc

pub returns-then-level-top-clause-pruned : goal.returns-then-level-top-clause-pruned
returns-then-level-top-clause-pruned c =
    let stuck_here : IsStuck c.args.work.now.residual.flows c.args.trip.now.labels.now.prices.now c.args.work.now.balance.lack.items c.steps.layers c.steps.level c.steps.here =
    elim c.if-level-eq0.branch [
      | then-level-eq0+else-lack_of-gt0 w ↦ (λ _. omega (arith, w.if-lack_of-gt0.false, w.lack_of.ensures), λ k a e. absurd (omega (arith, e, w.if-level-eq0.true)))
      | else-level-eq0+in_default w ↦ stuck_above c.steps.here c.requires.trip.work.residual c.requires.trip.work.neighbours c.requires.trip.labels.sorted c.steps.invariant.trail.member c.args.work.now.balance.lack.items c.steps.layers c.steps.level w.if-level-eq0.false (w.in_default.ensures.none refl)
    ] in
    let inside : c.steps.level < length c.steps.layers = omega (arith, c.steps.invariant.trail.within, c.requires.trip.top, c.requires.trip.room, c.steps.auto.layers) in
    pruned_taken c.steps.layers c.steps.level c.steps.here c.drop_member.new.self inside c.drop_member.ensures c.steps.invariant.pruned stuck_here

pub returns-then-level-top-clause-fewer : goal.returns-then-level-top-clause-fewer
returns-then-level-top-clause-fewer c =
    let inside : c.steps.level < length c.steps.layers = omega (arith, c.steps.invariant.trail.within, c.requires.trip.top, c.requires.trip.room, c.steps.auto.layers) in
    fewer_more c.args.layers.now c.steps.layers (set c.steps.layers c.steps.level c.drop_member.new.self) c.steps.invariant.fewer (fewer_taken c.steps.layers c.steps.level c.steps.here c.drop_member.new.self inside c.drop_member.ensures)

pub returns-then-level-top-clause-gone : goal.returns-then-level-top-clause-gone
returns-then-level-top-clause-gone c none =
    let inside : c.steps.level < length c.steps.layers = omega (arith, c.steps.invariant.trail.within, c.requires.trip.top, c.requires.trip.room, c.steps.auto.layers) in
    let at = c.steps.invariant.trail.none c.if-level-top.true in
    subst (λ k. has (layer_at (set c.steps.layers c.steps.level c.drop_member.new.self) k) c.args.trip.now.from ≡ false) c.if-level-top.true
    (subst (λ v. has (layer_at (set c.steps.layers c.steps.level c.drop_member.new.self) c.steps.level) v ≡ false) at (out_now c.steps.layers c.steps.level c.steps.here c.drop_member.new.self inside c.drop_member.ensures))

pub returns-then-is_empty-clause-layers : goal.returns-then-is_empty-clause-layers
returns-then-is_empty-clause-layers c =
    let inside : c.steps.level < length c.steps.layers = omega (arith, c.steps.invariant.trail.within, c.requires.trip.top, c.requires.trip.room, c.steps.auto.layers) in
    layers_fewer c.args.trip.now.labels.now.levels.now (set c.steps.layers c.steps.level c.drop_member.new.self) c.empty_above.new.layers (top_of c.args.trip.now + 1) c.empty_above.ensures.fewer
    (layers_less c.args.trip.now.labels.now.levels.now c.steps.layers (top_of c.args.trip.now + 1) c.steps.level c.drop_member.new.self c.steps.here inside c.drop_member.ensures c.steps.invariant.layers)

pub returns-then-is_empty-clause-pruned : goal.returns-then-is_empty-clause-pruned
returns-then-is_empty-clause-pruned c =
    let stuck_here : IsStuck c.args.work.now.residual.flows c.args.trip.now.labels.now.prices.now c.args.work.now.balance.lack.items c.steps.layers c.steps.level c.steps.here =
    elim c.if-level-eq0.branch [
      | then-level-eq0+else-lack_of-gt0 w ↦ (λ _. omega (arith, w.if-lack_of-gt0.false, w.lack_of.ensures), λ k a e. absurd (omega (arith, e, w.if-level-eq0.true)))
      | else-level-eq0+in_default w ↦ stuck_above c.steps.here c.requires.trip.work.residual c.requires.trip.work.neighbours c.requires.trip.labels.sorted c.steps.invariant.trail.member c.args.work.now.balance.lack.items c.steps.layers c.steps.level w.if-level-eq0.false (w.in_default.ensures.none refl)
    ] in
    let inside : c.steps.level < length c.steps.layers = omega (arith, c.steps.invariant.trail.within, c.requires.trip.top, c.requires.trip.room, c.steps.auto.layers) in
    pruned_emptied (set c.steps.layers c.steps.level c.drop_member.new.self) c.empty_above.new.layers c.steps.level (top_of c.args.trip.now) c.steps.invariant.trail.within (c.is_empty.ensures.none.0 c.if-is_empty.true) c.empty_above.ensures.above c.empty_above.ensures.below
    (pruned_taken c.steps.layers c.steps.level c.steps.here c.drop_member.new.self inside c.drop_member.ensures c.steps.invariant.pruned stuck_here)

pub returns-then-is_empty-clause-fewer : goal.returns-then-is_empty-clause-fewer
returns-then-is_empty-clause-fewer c =
    let inside : c.steps.level < length c.steps.layers = omega (arith, c.steps.invariant.trail.within, c.requires.trip.top, c.requires.trip.room, c.steps.auto.layers) in
    fewer_more c.args.layers.now (set c.steps.layers c.steps.level c.drop_member.new.self) c.empty_above.new.layers
    (fewer_more c.args.layers.now c.steps.layers (set c.steps.layers c.steps.level c.drop_member.new.self) c.steps.invariant.fewer (fewer_taken c.steps.layers c.steps.level c.steps.here c.drop_member.new.self inside c.drop_member.ensures)) c.empty_above.ensures.fewer

pub returns-then-is_empty-clause-gone : goal.returns-then-is_empty-clause-gone
returns-then-is_empty-clause-gone c none =
    out_above (set c.steps.layers c.steps.level c.drop_member.new.self) c.empty_above.new.layers c.steps.level (top_of c.args.trip.now) c.steps.invariant.trail.within (c.is_empty.ensures.none.0 c.if-is_empty.true) c.empty_above.ensures.above c.empty_above.ensures.below
    (top_of c.args.trip.now) c.args.trip.now.from c.steps.invariant.trail.within (omega arith)

pub returns-then-is_empty-clause-fresh : goal.returns-then-is_empty-clause-fresh
returns-then-is_empty-clause-fresh c levels whole =
    let stuck : ⊥ =
    elim c.if-level-eq0.branch [
      | then-level-eq0+else-lack_of-gt0 w ↦
          omega (arith, levels.lowest c.steps.here (omega (arith, c.steps.invariant.trail.member, c.requires.trip.labels.levels)) (c.steps.invariant.trail.level ∙ w.if-level-eq0.true), w.if-lack_of-gt0.false, w.lack_of.ensures)
      | else-level-eq0+in_default w ↦
          some_way c.steps.here c.requires.trip.work.residual c.requires.trip.work.neighbours c.requires.trip.labels.sorted c.steps.invariant.trail.member
          c.steps.layers c.steps.level (top_of c.args.trip.now + 1) levels (rw (c.steps.invariant.whole levels whole) whole)
          c.requires.trip.labels.levels c.steps.invariant.trail.level (omega (arith, w.if-level-eq0.false)) (omega (arith, c.steps.invariant.trail.within, c.requires.trip.top, c.requires.trip.work.residual.few)) (omega (arith, c.steps.invariant.trail.within))
          (w.in_default.ensures.none refl)
    ] in
    absurd stuck

pub steps-preserved : goal.steps-preserved
steps-preserved c =
    let inv = c.steps.invariant in
    let less : c.steps.level < top_of c.args.trip.now = omega (arith, c.if-level-top.false, inv.trail.within) in
    let stuck_here : IsStuck c.args.work.now.residual.flows c.args.trip.now.labels.now.prices.now c.args.work.now.balance.lack.items c.steps.layers c.steps.level c.steps.here =
    elim c.if-level-eq0.branch [
      | then-level-eq0+else-lack_of-gt0 w ↦ (λ _. omega (arith, w.if-lack_of-gt0.false, w.lack_of.ensures), λ k a e. absurd (omega (arith, e, w.if-level-eq0.true)))
      | else-level-eq0+in_default w ↦ stuck_above c.steps.here c.requires.trip.work.residual c.requires.trip.work.neighbours c.requires.trip.labels.sorted c.steps.invariant.trail.member c.args.work.now.balance.lack.items c.steps.layers c.steps.level w.if-level-eq0.false (w.in_default.ensures.none refl)
    ] in
    let inside : c.steps.level < length c.steps.layers = omega (arith, c.steps.invariant.trail.within, c.requires.trip.top, c.requires.trip.room, c.steps.auto.layers) in
    record {
      trail = subst (λ v. IsTrailFrom c.args.work.now c.args.trip.now (set c.steps.layers c.steps.level c.drop_member.new.self) c.steps.path (c.steps.level + 1) v) (sym c.tail-here.ensures.value)
          (trail_up c.requires.trip.work.residual c.drop_member.new.self inv.trail less);
      layers = layers_less c.args.trip.now.labels.now.levels.now c.steps.layers (top_of c.args.trip.now + 1) c.steps.level c.drop_member.new.self c.steps.here (omega (arith, less, c.requires.trip.top, c.requires.trip.room, c.steps.auto.layers)) c.drop_member.ensures inv.layers;
      pruned = pruned_taken c.steps.layers c.steps.level c.steps.here c.drop_member.new.self inside c.drop_member.ensures c.steps.invariant.pruned stuck_here;
      fewer = fewer_more c.args.layers.now c.steps.layers (set c.steps.layers c.steps.level c.drop_member.new.self) c.steps.invariant.fewer (fewer_taken c.steps.layers c.steps.level c.steps.here c.drop_member.new.self inside c.drop_member.ensures);
      whole = λ levels whole.
          let stuck : ⊥ =
          elim c.if-level-eq0.branch [
            | then-level-eq0+else-lack_of-gt0 w ↦
                omega (arith, levels.lowest c.steps.here (omega (arith, c.steps.invariant.trail.member, c.requires.trip.labels.levels)) (c.steps.invariant.trail.level ∙ w.if-level-eq0.true), w.if-lack_of-gt0.false, w.lack_of.ensures)
            | else-level-eq0+in_default w ↦
                some_way c.steps.here c.requires.trip.work.residual c.requires.trip.work.neighbours c.requires.trip.labels.sorted c.steps.invariant.trail.member
                c.steps.layers c.steps.level (top_of c.args.trip.now + 1) levels (rw (c.steps.invariant.whole levels whole) whole)
                c.requires.trip.labels.levels c.steps.invariant.trail.level (omega (arith, w.if-level-eq0.false)) (omega (arith, c.steps.invariant.trail.within, c.requires.trip.top, c.requires.trip.work.residual.few)) (omega (arith, c.steps.invariant.trail.within))
                (w.in_default.ensures.none refl)
          ] in
          absurd stuck;
    }
