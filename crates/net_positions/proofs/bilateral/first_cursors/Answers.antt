use Rattle.net_positions.proofs.CursorFacts.{at_the_start}
use Rattle.net_positions.proofs.bilateral.first_cursors.Goals as goal

pub loop-member-init : goal.loop-member-init
loop-member-init c = at_the_start c.args.rows.now
