use Rattle.std.proofs.Common.{◌≡◌, take, drop}
use Rattle.std.specs.Prelude.{All}
use Rattle.residual_graph.specs.Built.{IsSmall}
use Rattle.residual_graph.specs.Paths.{pushed_all}
use Rattle.residual_graph.proofs.Walks.{CanPush}
use Rattle.residual_graph.proofs.arcs.push_all.Given as goal

abbrev pub invariant-loop-arc : goal.invariant-loop-arc
invariant-loop-arc l = record {
  done : l.flows ≡ pushed_all l.amount l.initial.flows (take l.arc-index l.path);
  rest : CanPush l.amount l.flows (drop l.arc-index l.path);
  small : All IsSmall l.flows;
}
