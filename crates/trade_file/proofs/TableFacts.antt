-- The table of a product's sums, as far as its trades were added.
use Rattle.std.proofs.Common.{◌≡◌, ℕ, ◌<◌}
use Rattle.std.specs.Prelude.{List}
use Rattle.trade_file.specs.declared.file_trade.FileTrade.{FileTrade}
use Rattle.pair_table.specs.PairSums.{PairSums, sum_in, gross_in}
use Rattle.trade_file.specs.TradeFile.{product_total}
use Rattle.trade_file.specs.Networks.{pair_total}

-- the table has for each pair the sum of the product's trades, and nothing else
pub record HoldsSums (count product : ℕ) (trades : List FileTrade) (table : PairSums) : Type 0 where
  pub members : table.members ≡ count
  pub sums : (i j : ℕ) → i < count → j < count → sum_in table i j ≡ pair_total trades product i j
  pub gross : gross_in table ≡ product_total trades product
