use Rattle.std.proofs.Common.{◌≡◌, [], map, replicate}
use Rattle.trade_file.specs.Piles.{items_of}
use Rattle.trade_file.proofs.piles.no_piles.Given as goal

abbrev pub invariant-loop-product : goal.invariant-loop-product
invariant-loop-product l = map items_of l.piles.items ≡ replicate l._product []
