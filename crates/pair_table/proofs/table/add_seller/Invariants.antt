use Rattle.pair_table.proofs.Listed.{IsListed, size}
use Rattle.pair_table.proofs.table.add_seller.Given as goal

abbrev pub invariant-loop-buyer : goal.invariant-loop-buyer
invariant-loop-buyer l = IsListed l.members l.sums l.seller l.initial.rows.items l.rows.items l.left

abbrev pub decreases-loop-buyer : goal.decreases-loop-buyer
decreases-loop-buyer l = size l.members l.left
