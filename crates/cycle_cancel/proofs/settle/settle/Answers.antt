use Rattle.std.proofs.Common.{◌<◌, arith}
use Rattle.network_laws.specs.Networks.{total}
use Rattle.residual_graph.specs.Residual.{flow_rows}
use Rattle.cycle_cancel.proofs.Kept.{kept_more}
use Rattle.cycle_cancel.proofs.settle.settle.Goals as goal

pub rounds-smaller : goal.rounds-smaller
rounds-smaller g c =
    let less : total (flow_rows c.cancel.new.residual.flows) < total (flow_rows c.rounds.residual.flows) = c.cancel.ensures.cancelled.gross 0 in
    omega (arith, less)

pub rounds-preserved : goal.rounds-preserved
rounds-preserved g c = record {
  kept = kept_more c.args.residual.now c.rounds.residual c.cancel.new.residual c.rounds.cancelled c.rounds.invariant.kept c.cancel.ensures.members c.cancel.ensures.cancelled;
  some = c.rounds.invariant.some;
}
