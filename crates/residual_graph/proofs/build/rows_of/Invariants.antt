use Rattle.std.proofs.Common.{◌≡◌, take}
use Rattle.std.specs.Prelude.{filter}
use Rattle.residual_graph.specs.Residual.{flow_rows, has_amount}
use Rattle.residual_graph.proofs.build.rows_of.Given as goal

abbrev pub invariant-loop-flow : goal.invariant-loop-flow
invariant-loop-flow l = l.rows.items ≡ filter has_amount (flow_rows (take l.flow-index l.flows))
