use Rattle.std.proofs.Common.{◌-◌, ◌*◌, length}
use Rattle.acceptance.specs.Planning.{AreBefore}
use Rattle.acceptance.proofs.cursors.seller_row.Given as goal

abbrev pub invariant-loop-at : goal.invariant-loop-at
invariant-loop-at l = AreBefore l.rows l.at (l.seller * 65536)

abbrev pub decreases-loop-at : goal.decreases-loop-at
decreases-loop-at l = length l.rows - l.at
