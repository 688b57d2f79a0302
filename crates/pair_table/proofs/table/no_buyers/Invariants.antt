use Rattle.std.proofs.Common.{◌≡◌, length}
use Rattle.pair_table.specs.Buyers.{AreEmpty}
use Rattle.pair_table.proofs.table.no_buyers.Given as goal

abbrev pub invariant-loop-seller : goal.invariant-loop-seller
invariant-loop-seller l = (length l.buyers.items ≡ l._seller) × AreEmpty l.buyers.items
