use Rattle.std.proofs.Common.{◌≡◌, ◌+◌, List, get_or, sym, ap, ◌∙◌, subst, inl, inr, arith}
use Rattle.std.proofs.lemmas.Bool.{cases_eq}
use Rattle.member_set.specs.declared.set.MemberSet.{MemberSet}
use Rattle.residual_graph.specs.declared.flow.Flow.{Flow}
use Rattle.residual_graph.specs.Arcs.{room}
use Rattle.path_solver.specs.Prices.{twin_room}
use Rattle.path_solver.proofs.Bottlenecks.{IsNarrowest, narrower, as_narrow}
use Rattle.path_solver.proofs.paths.bottleneck_of.Goals as goal
use Rattle.path_solver.proofs.paths.bottleneck_of.Goals.{then-room-amount, else-room-amount+else-twin-eq0}

pub loop-place-preserved : goal.loop-place-preserved
loop-place-preserved c =
    let flows = c.args.residual.now.flows in
    let arcs = c.args.arcs.now in
    let m = c.loop-place.place in
    let at_room : c.rooms_of-room.result.0 ≡ room c.args.residual.now.flows (get_or c.args.arcs.now c.loop-place.place 0) =
    c.rooms_of-room.ensures.room ∙ ap (λ (fs : List Flow). room fs (get_or c.args.arcs.now c.loop-place.place 0)) c.flows-flows.ensures.value in
    let at_twin : c.rooms_of-room.result.1 ≡ twin_room c.args.residual.now.flows (get_or c.args.arcs.now c.loop-place.place 0) =
    c.rooms_of-room.ensures.twin ∙ ap (λ (fs : List Flow). twin_room fs (get_or c.args.arcs.now c.loop-place.place 0)) c.flows-flows.ensures.value in
    let some = c.requires.room c.loop-place.place 0 c.loop-place-test.true in
    elim c.if-room-amount.branch [
      | then-room-amount w ↦
          subst (λ (t : MemberSet). IsNarrowest c.args.residual.now.flows c.args.arcs.now c.args.most c.if-room-amount.amount t (c.loop-place.place + 1)) (sym w.turning-is)
          (narrower flows arcs c.args.most c.loop-place.amount c.loop-place.turning m c.loop-place.invariant c.loop-place-test.true c.if-room-amount.amount w.put.new.self
          (omega (arith, w.amount-is, w.min-amount.ensures, at_room, some, c.loop-place.invariant.some))
          (omega (arith, w.amount-is, w.min-amount.ensures))
          (omega (arith, w.amount-is, w.min-amount.ensures, at_room))
          (elim (cases_eq c.if-room-amount.amount c.loop-place.amount) [
            | inl e ↦ inl e
            | inr ne ↦ inr (omega (arith, w.amount-is, w.min-amount.ensures, at_room, ne))
          ]) w.put.ensures)
      | else-room-amount+else-twin-eq0 w ↦
          subst (λ (t : MemberSet). IsNarrowest c.args.residual.now.flows c.args.arcs.now c.args.most c.if-room-amount.amount t (c.loop-place.place + 1)) (sym w.turning-is)
          (subst (λ a. IsNarrowest c.args.residual.now.flows c.args.arcs.now c.args.most a c.loop-place.turning (c.loop-place.place + 1)) (sym w.amount-is)
          (as_narrow flows arcs c.args.most c.loop-place.amount c.loop-place.turning m c.loop-place.invariant c.loop-place-test.true
          (omega (arith, w.if-room-amount.false, at_room)) (omega (arith, w.if-twin-eq0.false, at_twin))))
    ]
