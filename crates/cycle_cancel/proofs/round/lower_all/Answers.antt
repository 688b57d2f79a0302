use Rattle.std.proofs.Common.{◌+◌, ◌<◌, List, sym, subst, arith}
use Rattle.residual_graph.specs.Arcs.{arc_count}
use Rattle.cycle_cancel.specs.declared.round.Step.{Step}
use Rattle.cycle_cancel.specs.Rounds.{IsRound}
use Rattle.cycle_cancel.proofs.RoundSteps.{arc_keeps}
use Rattle.cycle_cancel.proofs.LevelTable.{ends_in}
use Rattle.cycle_cancel.proofs.round.lower_all.Goals as goal

pub loop-arc-preserved : goal.loop-arc-preserved
loop-arc-preserved c =
    let flows = c.args.residual.now.flows in
    let before = c.args.before.now in
    let n = c.loop-arc.arc in
    let inv = c.loop-arc.invariant in
    let l : c.loop-arc.arc < arc_count c.args.residual.now.flows = omega (arith, c.loop-arc-test.true, c.arcs-arc-end.ensures.value) in
    let ends = ends_in c.args.residual.now.members c.args.residual.now.flows c.arcs-arc-end.ensures.residual.good c.loop-arc.arc l in
    subst (λ (x : List Step). IsRound c.args.least c.args.residual.now.flows c.args.before.now x (c.loop-arc.arc + 1)) (sym c.lower.ensures) (arc_keeps c.args.residual.now.flows c.args.before.now c.loop-arc.next c.loop-arc.arc c.requires.least inv l (omega (arith, ends.1, inv.same_length, c.requires.members)))
