use Rattle.std.proofs.Common.{◌≡◌}
use Rattle.command_types.specs.Books.{listed_below}
use Rattle.pair_table.specs.PairSums.{cell_row}
use Rattle.pair_table.proofs.table.rows_of.Given as goal

abbrev pub invariant-loop-seller : goal.invariant-loop-seller
invariant-loop-seller l = l.rows.items ≡ listed_below l.seller (λ i. listed_below l.members (cell_row l.sums i))
