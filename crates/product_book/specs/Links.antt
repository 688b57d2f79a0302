-- The lists of a book: of each product, and of each ordered pair of members in it, the numbers of the alleged and live trades.
use Rattle.std.specs.Prelude.{◌≡◌, ℕ, ◌+◌, ◌-◌, ◌*◌, ◌≤◌, ◌<◌, ◌==◌, ◌&&◌, Bool, List, [], length, map, filter, slice_index_or}
use Rattle.command_types.specs.declared.trade.TradeRow.{TradeRow}
use Rattle.command_types.specs.Trades.{counts}
use Rattle.product_book.specs.OpenLists.{OpenView, numbers_of, with_number, without_number}
use Rattle.product_book.specs.declared.kept.KeptSums.{KeptSums}
use Rattle.product_book.specs.Kept.{trade_place, IsSummedBook}

-- the numbers of the alleged and live trades with this place, in rising order
abbrev pub is_open_at : (TradeRow → ℕ) → ℕ → TradeRow → Bool
is_open_at key place row = (key row == place) && counts row.state

abbrev pub numbers_at : (TradeRow → ℕ) → ℕ → List TradeRow → List ℕ
numbers_at key place rows = map (λ row. row.number) (filter (is_open_at key place) rows)

-- each list has the numbers of the open trades with its place
pub record AreListed (key : TradeRow → ℕ) (open_lists : OpenView) (rows : List TradeRow) : Type 0 where
  pub count : open_lists.count ≡ length rows
  pub listed : (place : ℕ) → place < length open_lists.lists → slice_index_or (numbers_of open_lists.lists) place [] ≡ numbers_at key place rows

-- a trade comes last into a list, and a number goes
pub record IsPushed (before after : OpenView) (list : ℕ) : Type 0 where
  pub numbers : numbers_of after.lists ≡ with_number (numbers_of before.lists) list (before.count + 1)
  pub count : after.count ≡ before.count + 1
  pub spare : after.spare ≡ before.spare - 1

pub record IsTakenOut (before after : OpenView) (number : ℕ) : Type 0 where
  pub numbers : numbers_of after.lists ≡ without_number (numbers_of before.lists) number
  pub count : after.count ≡ before.count
  pub spare : after.spare ≡ before.spare

-- the last number goes, and the count with it
pub record IsForgotten (before after : OpenView) : Type 0 where
  pub numbers : numbers_of after.lists ≡ without_number (numbers_of before.lists) before.count
  pub count : after.count + 1 ≡ before.count
  pub spare : after.spare ≡ before.spare

-- a list for each product and for each pair, of these trades, and room for what is promised
pub record AreLinked (members products : ℕ) (by_product by_pair : OpenView) (spare : ℕ) (rows : List TradeRow) : Type 0 where
  pub product_count : length by_product.lists ≡ products
  pub pair_count : length by_pair.lists ≡ members * (members * products)
  pub of_products : AreListed (λ row. row.product) by_product rows
  pub of_pairs : AreListed (trade_place members) by_pair rows
  pub product_room : spare ≤ by_product.spare
  pub pair_room : spare ≤ by_pair.spare

-- what each book keeps, with its sums and its lists
pub record IsLinkedBook (members products submitted : ℕ) (sums : KeptSums) (rows : List TradeRow) (by_product by_pair : OpenView) (spare rows_room : ℕ) : Type 0 where
  pub summed : IsSummedBook members products submitted sums rows
  pub linked : AreLinked members products by_product by_pair spare rows
  pub room : spare ≤ rows_room
