use Rattle.std.proofs.Common.{◌+◌, ◌-◌}
use Rattle.path_solver.specs.Levels.{AreLayers, AreWholeLayers}
use Rattle.path_solver.specs.Searches.{IsSpread}
use Rattle.path_solver.proofs.layers.layer.Given as goal

abbrev pub invariant-spreads : goal.invariant-spreads
invariant-spreads l = record {
  spread : IsSpread l.work.residual l.aim.prices.now l.work.balance.surplus.items l.work.balance.lack.items l.levels l.level l.now l.seen;
  layers : AreLayers l.levels l.layers l.level;
  whole : AreWholeLayers l.levels l.layers l.level;
}

abbrev pub decreases-spreads : goal.decreases-spreads
decreases-spreads l = l.work.residual.members + 1 - l.level
