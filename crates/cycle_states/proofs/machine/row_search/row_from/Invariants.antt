use Rattle.std.proofs.Common.{◌-◌, length}
use Rattle.cycle_states.specs.PairPlaces.{IsPastRows}
use Rattle.cycle_states.proofs.machine.row_search.row_from.Given as goal

abbrev pub invariant-loop-at : goal.invariant-loop-at
invariant-loop-at l = IsPastRows l.rows l.at l.wanted

abbrev pub decreases-loop-at : goal.decreases-loop-at
decreases-loop-at l = length l.rows - l.at
