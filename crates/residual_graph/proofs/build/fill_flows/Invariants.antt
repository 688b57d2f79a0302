use Rattle.residual_graph.specs.Residual.{flow_of}
use Rattle.residual_graph.specs.Built.{blank_flow}
use Rattle.residual_graph.specs.NextRow.{IsNextRow}
use Rattle.residual_graph.proofs.Filling.{AreFilled}
use Rattle.residual_graph.proofs.NextRows.{AreInStep}
use Rattle.residual_graph.proofs.build.fill_flows.Given as goal

abbrev pub invariant-loop-place : goal.invariant-loop-place
invariant-loop-place l = record {
  filled : AreFilled (flow_of l.cap l.network) (blank_flow l.cap) l.rows l.place l.flows;
  next : IsNextRow l.sales l.next;
  step : AreInStep l.sales l.rows l.next.at l.place;
}
