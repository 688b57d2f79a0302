-- What is written of a market that goes on over the roster of a new period.
use Rattle.std.specs.Prelude.{ℕ, ◌+◌, nat_lt, List, [], map, filter, Option, Some, None, Result, Ok, Err, if◌then◌else◌}
use Rattle.units_core.specs.Day.{DayParts}
use Rattle.units_core.specs.declared.limits.TheConstants.{MOST_NUMBER}
use Rattle.command_types.specs.declared.base.Base.{Base}
use Rattle.command_types.specs.declared.roster.MemberRow.{MemberRow}
use Rattle.command_types.specs.declared.roster.ProductRow.{ProductRow}
use Rattle.command_types.specs.declared.trade.TradeRow.{TradeRow}
use Rattle.command_types.specs.Roster.{Rows}
use Rattle.period_roll.specs.declared.cause.Cause.{Cause}
use Rattle.period_roll.specs.declared.cause.Cause.TheVariants.{CycleOpen, MaturesEarly, PositionsFull}
use Rattle.period_roll.specs.Settings.{moved_beside}
use Rattle.period_roll.specs.Trades.{is_kept, moved_trades, first_late, numbered_from}

-- the base with these trades, one position further: its cycles are the same, its names the new roster's, its settings those that are there, and its trades are numbered from 1
abbrev pub base_with : Rows → Rows → Base → List TradeRow → Base
base_with old new base trades = record {
  position = base.position + 1;
  cycle = base.cycle;
  version = base.version;
  members = map (λ (row : MemberRow). row.name) new.members;
  products = map (λ (row : ProductRow). row.name) new.products;
  tolerances = moved_beside old new [] base.tolerances;
  trades = numbered_from 1 trades;
}

-- it stands where a position is left
abbrev pub if_left : Rows → Rows → Base → List TradeRow → Result Base Cause
if_left old new base trades = if nat_lt base.position MOST_NUMBER then Ok (base_with old new base trades) else Err PositionsFull

-- no trade is too late for its product
abbrev pub unless_late : Rows → Rows → Base → List TradeRow → Option ℕ → Result Base Cause
unless_late old new base trades None = if_left old new base trades
unless_late old new base trades (Some trade) = Err (MaturesEarly trade)

-- the trades are there, or one has a cause
abbrev pub with_trades : Rows → Rows → Base → Result (List TradeRow) Cause → Result Base Cause
with_trades old new base (Err cause) = Err cause
with_trades old new base (Ok trades) = unless_late old new base trades (first_late new.products trades)

-- a base over the new roster, without the products that mature by a day if one is given, or the first cause why not
abbrev pub rolled_base : Rows → Rows → Option DayParts → Base → Result Base Cause
rolled_base old new matured base = with_trades old new base (moved_trades old new (filter (is_kept old matured) base.trades))

-- what is written of a market over the new roster; of one in which a cycle is open nothing is
abbrev pub rolled : Rows → Rows → Option DayParts → Option Base → Result Base Cause
rolled old new matured None = Err CycleOpen
rolled old new matured (Some base) = rolled_base old new matured base
