use Rattle.std.proofs.Common.{◌+◌, ◌≤◌}
use Rattle.network_laws.specs.Networks.{total}
use Rattle.residual_graph.specs.Residual.{flow_rows}
use Rattle.cycle_cancel.specs.Cancels.{IsKept}
use Rattle.cycle_cancel.proofs.settle.settle.Given as goal

abbrev pub invariant-rounds : goal.invariant-rounds
invariant-rounds g l = record {
  kept : IsKept l.cancelled l.initial.residual l.residual;
  some : 1 ≤ l.least;
}

abbrev pub decreases-rounds : goal.decreases-rounds
decreases-rounds g l = total (flow_rows l.residual.flows) + l.least
