use Rattle.net_positions.specs.Cursors.{AreCursors}
use Rattle.net_positions.proofs.bilateral.first_cursors.Given as goal

abbrev pub invariant-loop-member : goal.invariant-loop-member
invariant-loop-member l = AreCursors l.rows l.cursors 0
