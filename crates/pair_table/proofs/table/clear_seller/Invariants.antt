use Rattle.pair_table.proofs.Listed.{size}
use Rattle.pair_table.proofs.Cleared.{IsClearing}
use Rattle.pair_table.proofs.table.clear_seller.Given as goal

abbrev pub invariant-loop-buyer : goal.invariant-loop-buyer
invariant-loop-buyer l = IsClearing l.members l.seller l.initial.sums l.sums l.left

abbrev pub decreases-loop-buyer : goal.decreases-loop-buyer
decreases-loop-buyer l = size l.members l.left
