use Rattle.std.proofs.Common.{ap, sym, subst}
use Rattle.residual_graph.specs.Residual.{ResidualData}
use Rattle.cycle_cancel.specs.Cancels.{IsCancelled}
use Rattle.cycle_cancel.proofs.Cancelling.{cancelled, path_of}
use Rattle.cycle_cancel.proofs.cancel.cancel.Goals as goal

pub push_path-requires : goal.push_path-requires
push_path-requires g c = path_of c.least_room-amount.result c.args.residual.now.flows c.args.arcs.now c.requires c.least_room-amount.ensures.all

pub returns-clause-cancelled : goal.returns-clause-cancelled
returns-clause-cancelled g c =
    subst (IsCancelled c.args.residual.now.flows) (sym (ap (λ (r : ResidualData). r.flows) c.push_path.ensures.pushed)) (cancelled c.least_room-amount.result c.args.residual.now.flows c.args.arcs.now c.requires c.least_room-amount.ensures.some c.least_room-amount.ensures.all)
