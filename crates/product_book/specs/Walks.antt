-- The trades that stand at the numbers of a list.
use Rattle.std.specs.Prelude.{ℕ, List, [], ◌∷◌, filter, filter_map, is_some, IsTrue}
use Rattle.command_types.specs.declared.trade.TradeRow.{TradeRow}
use Rattle.command_types.specs.Trades.{is_live, trade_numbered}

-- the trades with these numbers, in their order
abbrev pub rows_at : List TradeRow → List ℕ → List TradeRow
rows_at trades numbers = filter_map (trade_numbered trades) numbers

-- the live ones
abbrev pub live_among : List TradeRow → List TradeRow
live_among rows = filter (λ row. is_live row.state) rows

-- there is a trade with each of these numbers
abbrev pub EachThere : List TradeRow → List ℕ → Type 0
EachThere trades [] = Unit {0}
EachThere trades (number ∷ numbers) = IsTrue (is_some (trade_numbered trades number)) × EachThere trades numbers
