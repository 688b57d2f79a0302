use Rattle.std.proofs.Common.{refl}
use Rattle.residual_graph.proofs.Walks.{path_can}
use Rattle.residual_graph.proofs.arcs.push_all.Goals as goal

pub loop-arc-init : goal.loop-arc-init
loop-arc-init c = record {
  done = refl;
  rest = path_can c.args.amount c.args.flows.now c.args.path.now c.requires.path;
  small = c.requires.small;
}
