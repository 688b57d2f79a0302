-- The trades of a file, dealt to their products.
use Rattle.std.specs.Prelude.{◌≡◌, ℕ, ◌<◌, ◌==◌, Bool, List, [], length, filter, slice_index_or}
use Rattle.std.specs.declared.alloc.Global.{Global}
use Rattle.std.specs.declared.vec.Vec.{Vec}
use Rattle.trade_file.specs.declared.file_trade.FileTrade.{FileTrade}

-- the trades of a vector, in their order
abbrev pub items_of : Vec FileTrade Global → List FileTrade
items_of v = v.items

-- the trades of a product's pile
abbrev pub pile_of : List (List FileTrade) → ℕ → List FileTrade
pile_of piles product = slice_index_or piles product []

-- the trade is one of this product
abbrev pub is_of : ℕ → FileTrade → Bool
is_of product trade = trade.product == product

-- each product has a pile, with its trades in their order
pub record AreDealt (products : ℕ) (trades : List FileTrade) (piles : List (List FileTrade)) : Type 0 where
  pub count : length piles ≡ products
  pub each : (product : ℕ) → product < products → pile_of piles product ≡ filter (is_of product) trades
