use Rattle.std.proofs.Common.{◌≡◌, ◌<◌, length}
use Rattle.std.specs.declared.alloc.Global.{Global}
use Rattle.std.specs.declared.vec.Vec.{Vec}
use Rattle.cycle_cancel.specs.declared.round.Step.{Step}
use Rattle.cycle_cancel.proofs.Tracing.{IsTracing}
use Rattle.cycle_cancel.proofs.trace.trace.Given as goal

abbrev pub invariant-loop-back : goal.invariant-loop-back
invariant-loop-back l =
    (length l.path.items ≡ l.back) × (length l.marks.items ≡ l.residual.members) × (l.at < l.residual.members) × ((any : Vec Step Global) → IsTracing l.residual.flows l.levels l.residual.members l.rounds any l.path.items l.marks.items l.at l.back)
