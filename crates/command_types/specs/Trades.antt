-- Sums over the plain trade rows, and the changes of a row.
use Rattle.std.specs.Prelude.{ℕ, ◌+◌, ◌-◌, ◌==◌, nat_lt, length, filter, sum_by, slice_get, slice_set, Bool, true, false, is_some, ◌&&◌, ◌||◌, List, [], ◌∷◌, ◌++◌, Option, Some, None, if◌then◌else◌}
use Rattle.units_core.specs.Day.{DayParts}
use Rattle.command_types.specs.declared.trade.TradeRow.{TradeRow}
use Rattle.command_types.specs.declared.trade.Side.{Side}
use Rattle.command_types.specs.declared.trade.Side.TheVariants.{Out, In}
use Rattle.command_types.specs.declared.trade.TradeState.{TradeState}
use Rattle.command_types.specs.declared.trade.TradeState.TheVariants.{Alleged, Live, Ended}

-- the trade waits for the other party
abbrev pub is_alleged : TradeState → Bool
is_alleged Alleged = true
is_alleged state = false

-- the trade is live
abbrev pub is_live : TradeState → Bool
is_live Live = true
is_live state = false

-- the trade has ended
abbrev pub is_ended : TradeState → Bool
is_ended Ended = true
is_ended state = false

-- alleged and live trades count for a product's gross
abbrev pub counts : TradeState → Bool
counts Ended = false
counts state = true

-- the amounts of those rows for which the test holds
abbrev pub total_where : (TradeRow → Bool) → List TradeRow → ℕ
total_where test rows = sum_by (λ row. if test row then row.amount else 0) rows

-- the alleged and live amounts of a product
abbrev pub gross_of : ℕ → List TradeRow → ℕ
gross_of product rows = total_where (λ row. (row.product == product) && counts row.state) rows

-- what a member owes in a product, over its live trades
abbrev pub sold_by : ℕ → ℕ → List TradeRow → ℕ
sold_by product member rows = total_where (λ row. (row.product == product) && is_live row.state && (row.seller == member)) rows

-- what it is owed
abbrev pub bought_by : ℕ → ℕ → List TradeRow → ℕ
bought_by product member rows = total_where (λ row. (row.product == product) && is_live row.state && (row.buyer == member)) rows

-- what the seller owes the buyer in a product, over their live trades
abbrev pub pair_sum_of : ℕ → ℕ → ℕ → List TradeRow → ℕ
pair_sum_of product seller buyer rows =
    total_where (λ row. (row.product == product) && is_live row.state && (row.seller == seller) && (row.buyer == buyer)) rows

-- how many trades a party submitted
abbrev pub submitted_count : List TradeRow → ℕ
submitted_count rows = length (filter (λ row. is_some row.submitter) rows)

-- the trade with this number: numbers count from 1 in the order of the rows
abbrev pub trade_numbered : List TradeRow → ℕ → Option TradeRow
trade_numbered rows number = if nat_lt 0 number then slice_get rows (number - 1) else None

-- the rows with this one at a trade's place; without one they stay
abbrev pub with_row : List TradeRow → ℕ → Option TradeRow → List TradeRow
with_row rows number None = rows
with_row rows number (Some row) = slice_set rows (number - 1) row

-- the changed row, if the trade is there
abbrev pub changed_row : (TradeRow → TradeRow) → Option TradeRow → Option TradeRow
changed_row change None = None
changed_row change (Some row) = Some (change row)

-- the rows with one trade changed
abbrev pub with_changed : (TradeRow → TradeRow) → List TradeRow → ℕ → List TradeRow
with_changed change rows number = with_row rows number (changed_row change (trade_numbered rows number))

-- the other party agrees
abbrev pub live_row : TradeRow → TradeRow
live_row row = record row { state = Live }

-- a party asks to end: an alleged trade ends, and so does a live one that the other party has marked; else it is marked
abbrev pub row_ended_by : Side → TradeRow → TradeRow
row_ended_by side row = if is_alleged row.state || is_some row.mark then record row { state = Ended } else record row { mark = Some side }

-- a party's hold is set, or taken away
abbrev pub row_with_hold : Bool → Side → TradeRow → TradeRow
row_with_hold held Out row = record row { hold_out = held }
row_with_hold held In row = record row { hold_in = held }

-- the rows with this trade made live
abbrev pub affirmed : List TradeRow → ℕ → List TradeRow
affirmed rows number = with_changed live_row rows number

-- the rows after a party asked to end this trade
abbrev pub ended_by : Side → List TradeRow → ℕ → List TradeRow
ended_by side rows number = with_changed (row_ended_by side) rows number

-- the rows with a party's hold on this trade
abbrev pub held_by : Side → List TradeRow → ℕ → List TradeRow
held_by side rows number = with_changed (row_with_hold true side) rows number

-- the rows without a party's hold on this trade
abbrev pub freed_by : Side → List TradeRow → ℕ → List TradeRow
freed_by side rows number = with_changed (row_with_hold false side) rows number

-- a party's hold
abbrev pub hold_of : Side → TradeRow → Bool
hold_of Out row = row.hold_out
hold_of In row = row.hold_in

-- the mark is this side's
abbrev pub is_marked_by : Side → Option Side → Bool
is_marked_by Out (Some Out) = true
is_marked_by In (Some In) = true
is_marked_by side mark = false

-- a new trade, which waits for the other party
abbrev pub alleged_row : ℕ → ℕ → ℕ → ℕ → ℕ → DayParts → Side → TradeRow
alleged_row number seller buyer product amount day submitter = record {
  number = number;
  seller = seller;
  buyer = buyer;
  product = product;
  amount = amount;
  day = day;
  state = Alleged;
  submitter = Some submitter;
  mark = None;
  hold_out = false;
  hold_in = false;
  frozen = false;
}

-- the rows with a new trade behind them
abbrev pub with_alleged : List TradeRow → ℕ → ℕ → ℕ → ℕ → DayParts → Side → List TradeRow
with_alleged rows seller buyer product amount day submitter =
    rows ++ alleged_row (length rows + 1) seller buyer product amount day submitter ∷ []
