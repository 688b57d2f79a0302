use Rattle.std.proofs.Common.{take}
use Rattle.session.specs.Kept.{kept_rows}
use Rattle.session.specs.Places.{HasRows}
use Rattle.session.proofs.product_network.product_network.Given as goal

abbrev pub invariant-loop-place : goal.invariant-loop-place
invariant-loop-place l = HasRows l.roster.members l.product (take l.place (kept_rows l.draft)) l.table
