use Rattle.std.proofs.Common.{map, take}
use Rattle.trade_file.specs.Piles.{AreDealt, items_of}
use Rattle.trade_file.proofs.piles.Piles.of.Given as goal

abbrev pub invariant-loop-trade : goal.invariant-loop-trade
invariant-loop-trade l = AreDealt l.products (take l.trade-index l.trades) (map items_of l.piles.items)
