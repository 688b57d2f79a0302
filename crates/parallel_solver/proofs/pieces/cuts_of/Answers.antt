use Rattle.std.proofs.Common.{sym, subst}
use Rattle.network_laws.specs.Limits.{LimitsData}
use Rattle.split_parts.specs.Parts.{IsPartitionOf}
use Rattle.parallel_solver.proofs.Pieced.{cuts_more}
use Rattle.parallel_solver.proofs.pieces.cuts_of.Goals as goal

pub loop-problem-preserved : goal.loop-problem-preserved
loop-problem-preserved c =
    let p = c.problem-item.result in
    cuts_more c.loop-problem.problem-index c.args.problems.now p p c.loop-problem.cuts.items c.push.new.self.items c.in_ok-cut.cut c.loop-problem-test.true (sym c.problem-item.is) c.in_ok-push.ensures.items
    (subst (λ (l : LimitsData). IsPartitionOf l c.in_ok-cut.cut) c.limits.ensures.value c.in_ok-cut.ensures)
    c.loop-problem.invariant
