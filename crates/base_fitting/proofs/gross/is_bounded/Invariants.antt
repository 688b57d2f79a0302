use Rattle.std.proofs.Common.{take}
use Rattle.base_fitting.proofs.GrossFacts.{AreSums}
use Rattle.units_core.specs.declared.limits.TheConstants.{MOST_GROSS, MOST_PRODUCTS}
use Rattle.base_fitting.proofs.gross.is_bounded.Given as goal

abbrev pub invariant-loop-row : goal.invariant-loop-row
invariant-loop-row l = AreSums MOST_PRODUCTS MOST_GROSS l.sums (take l.row-index l.rows)
