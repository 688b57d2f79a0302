use Rattle.std.proofs.Common.{◌≡◌, ◌+◌, ◌*◌}
use Rattle.path_solver.specs.Labels.{AreLevelsIn, AreLayersFrom, AreWholeFrom, ArePrunedFrom}
use Rattle.path_solver.specs.Pruned.{AreFewer}
use Rattle.path_solver.specs.Trails.{IsTrail}
use Rattle.path_solver.proofs.Trails.{in_layers}
use Rattle.path_solver.proofs.walk.walk.Given as goal

abbrev pub invariant-steps : goal.invariant-steps
invariant-steps l = record {
  trail : IsTrail l.work.residual l.trip.labels.now.prices.now l.trip.labels.now.levels.now l.layers l.path l.level l.top l.here l.trip.from;
  layers : AreLayersFrom l.trip l.layers;
  pruned : ArePrunedFrom l.work l.trip l.layers;
  fewer : AreFewer l.initial.layers l.layers;
  whole : AreLevelsIn l.work l.trip.labels.now → AreWholeFrom l.trip l.initial.layers → l.layers ≡ l.initial.layers;
}

abbrev pub decreases-steps : goal.decreases-steps
decreases-steps l = 2 * in_layers l.layers + l.level
