use Rattle.net_positions.proofs.Totals.{none_yet}
use Rattle.net_positions.proofs.positions.positions_of.Goals as goal

pub add_rows-gross-requires-clause-empty : goal.add_rows-gross-requires-clause-empty
add_rows-gross-requires-clause-empty c = none_yet
