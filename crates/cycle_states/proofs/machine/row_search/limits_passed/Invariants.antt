use Rattle.std.proofs.Common.{◌-◌, length}
use Rattle.cycle_states.specs.PairPlaces.{IsPastLimits}
use Rattle.cycle_states.proofs.machine.row_search.limits_passed.Given as goal

abbrev pub invariant-loop-at : goal.invariant-loop-at
invariant-loop-at l = IsPastLimits l.rows l.at l.wanted

abbrev pub decreases-loop-at : goal.decreases-loop-at
decreases-loop-at l = length l.rows - l.at
