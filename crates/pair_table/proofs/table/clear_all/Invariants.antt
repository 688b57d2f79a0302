use Rattle.pair_table.specs.Buyers.{AreBuyers, IsCleared}
use Rattle.pair_table.proofs.table.clear_all.Given as goal

abbrev pub invariant-loop-place : goal.invariant-loop-place
invariant-loop-place l = record {
  cleared : IsCleared l.members 0 l.place l.initial.sums l.sums;
  buyers : AreBuyers l.members l.sums l.buyers;
}
