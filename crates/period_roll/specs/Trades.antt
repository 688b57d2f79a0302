-- The open trades of a base, over a new roster.
use Rattle.std.specs.Prelude.{ℕ, suc, Bool, false, not, ◌&&◌, List, [], ◌∷◌, slice_get, Option, Some, None, Result, Ok, Err, if◌then◌else◌}
use Rattle.units_core.specs.Day.{DayParts, is_before}
use Rattle.command_types.specs.declared.roster.ProductRow.{ProductRow}
use Rattle.command_types.specs.declared.trade.TradeRow.{TradeRow}
use Rattle.command_types.specs.Roster.{Rows}
use Rattle.command_types.specs.Trades.{counts}
use Rattle.command_types.specs.Cycles.{product_matures_after}
use Rattle.period_roll.specs.declared.cause.Cause.{Cause}
use Rattle.period_roll.specs.Places.{moved_party, moved_product}

-- the product is there, and matures on this day or earlier
abbrev pub matures_by : Option ProductRow → DayParts → Bool
matures_by None day = false
matures_by (Some row) day = not (is_before day row.maturity)

-- the trades of the product at this place are left out, by a day if one is given
abbrev pub is_left_out : Rows → Option DayParts → ℕ → Bool
is_left_out old None product = false
is_left_out old (Some day) product = matures_by (slice_get old.products product) day

-- the trade goes along: it is alleged or live, and its product is not left out
abbrev pub is_kept : Rows → Option DayParts → TradeRow → Bool
is_kept old matured row = counts row.state && not (is_left_out old matured row.product)

-- the trade at its new places, or the first of its causes
abbrev pub trade_at : TradeRow → Result ℕ Cause → Result ℕ Cause → Result ℕ Cause → Result TradeRow Cause
trade_at row (Ok seller) (Ok buyer) (Ok product) = Ok (record row { seller = seller; buyer = buyer; product = product })
trade_at row (Ok seller) (Ok buyer) (Err cause) = Err cause
trade_at row (Ok seller) (Err cause) product = Err cause
trade_at row (Err cause) buyer product = Err cause

-- the trade over the new roster, with its old number
abbrev pub moved_trade : Rows → Rows → TradeRow → Result TradeRow Cause
moved_trade old new row =
    trade_at row (moved_party old new row.number row.seller) (moved_party old new row.number row.buyer) (moved_product old new row.number row.product)

-- a trade before others, or the first cause
abbrev pub joined : Result TradeRow Cause → Result (List TradeRow) Cause → Result (List TradeRow) Cause
joined (Ok row) (Ok rows) = Ok (row ∷ rows)
joined (Ok row) (Err cause) = Err cause
joined (Err cause) rows = Err cause

-- all of them over the new roster, or the first cause
abbrev pub moved_trades : Rows → Rows → List TradeRow → Result (List TradeRow) Cause
moved_trades old new [] = Ok []
moved_trades old new (row ∷ rows) = joined (moved_trade old new row) (moved_trades old new rows)

-- the number of the first trade whose product does not mature after the trade's day
abbrev pub first_late : List ProductRow → List TradeRow → Option ℕ
first_late products [] = None
first_late products (row ∷ rows) =
    if product_matures_after (slice_get products row.product) row.day then first_late products rows else Some row.number

-- the trades numbered one after another, the first by this number
abbrev pub numbered_from : ℕ → List TradeRow → List TradeRow
numbered_from number [] = []
numbered_from number (row ∷ rows) = record row { number = number } ∷ numbered_from (suc number) rows
