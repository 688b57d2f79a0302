-- What contracts see of a book, what each book keeps, and when a trade may be changed.
use Rattle.std.specs.Prelude.{◌≡◌, ◌≢◌, ℕ, ◌+◌, ◌≤◌, ◌<◌, Bool, false, not, ◌&&◌, ◌||◌, List, [], ◌∷◌, filter, is_some, Option, Some, None}
use Rattle.command_types.specs.declared.trade.TradeRow.{TradeRow}
use Rattle.command_types.specs.declared.trade.Side.{Side}
use Rattle.command_types.specs.Books.{is_between}
use Rattle.command_types.specs.Trades.{is_alleged, is_live, is_ended, is_marked_by, hold_of, counts, gross_of, submitted_count}
use Rattle.units_core.specs.declared.limits.TheConstants.{MOST_GROSS, MOST_MEMBERS, MOST_PRODUCTS}

-- the trades, for how many more there is room without memory, and how many members and products there are
pub record BookView : Type 0 where
  pub rows : List TradeRow
  pub spare : ℕ
  pub members : ℕ
  pub products : ℕ

-- the most that the alleged and live amounts of a product come to
abbrev pub gross_limit : ℕ
gross_limit = MOST_GROSS

-- the trade with this number: its product and its two parties are places in range, and the parties differ
pub record IsTrade (members products n : ℕ) (row : TradeRow) : Type 0 where
  pub number : row.number ≡ n
  pub product : row.product < products
  pub seller : row.seller < members
  pub buyer : row.buyer < members
  pub different : row.seller ≢ row.buyer

-- trades that are numbered one by one, from this number on
abbrev pub AreTrades : ℕ → ℕ → ℕ → List TradeRow → Type 0
AreTrades members products n [] = Unit {0}
AreTrades members products n (row ∷ rows) = IsTrade members products n row × AreTrades members products (n + 1) rows

-- what each book keeps: its trades are numbered from 1, the gross of each product is within the limit, and the submitted trades are counted
pub record IsBook (members products submitted : ℕ) (rows : List TradeRow) : Type 0 where
  pub few_members : members ≤ MOST_MEMBERS
  pub few_products : products ≤ MOST_PRODUCTS
  pub trades : AreTrades members products 1 rows
  pub bounded : (product : ℕ) → gross_of product rows ≤ gross_limit
  pub counted : submitted ≡ submitted_count rows

-- the trade is there, and alleged
abbrev pub may_affirm : Option TradeRow → Bool
may_affirm None = false
may_affirm (Some row) = is_alleged row.state

-- the trade is there and has not ended, and this side's mark does not stand
abbrev pub may_end : Side → Option TradeRow → Bool
may_end side None = false
may_end side (Some row) = not (is_ended row.state || is_marked_by side row.mark)

-- the trade is live, and this side does not hold it
abbrev pub may_hold : Side → Option TradeRow → Bool
may_hold side None = false
may_hold side (Some row) = is_live row.state && not (hold_of side row)

-- the trade is live, and this side holds it
abbrev pub may_free : Side → Option TradeRow → Bool
may_free side None = false
may_free side (Some row) = is_live row.state && hold_of side row

-- the live trades of a pair in a product, in the order of their numbers
abbrev pub live_between : ℕ → ℕ → ℕ → List TradeRow → List TradeRow
live_between product seller buyer rows = filter (λ row. is_between product seller buyer row && is_live row.state) rows

-- a trade may be put back to an earlier form of it: the terms are the same, and either counts for the gross as the other does
pub record IsEarlier (now was : TradeRow) : Type 0 where
  pub number : was.number ≡ now.number
  pub product : was.product ≡ now.product
  pub seller : was.seller ≡ now.seller
  pub buyer : was.buyer ≡ now.buyer
  pub amount : was.amount ≡ now.amount
  pub submitter : was.submitter ≡ now.submitter
  pub counts : counts was.state ≡ counts now.state

abbrev pub MayPutBack : Option TradeRow → TradeRow → Type 0
MayPutBack None was = ⊥
MayPutBack (Some now) was = IsEarlier now was

-- the trade is there, and a party submitted it
abbrev pub may_take_back : Option TradeRow → Bool
may_take_back None = false
may_take_back (Some row) = is_some row.submitter
