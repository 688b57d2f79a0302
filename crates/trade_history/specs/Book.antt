-- The trades of a history, and its executions.
use Rattle.std.specs.Prelude.{◌≡◌, ℕ, suc, ◌+◌, List, [], ◌∷◌, ◌++◌, length, fold, Option, Some, None, unwrap_or, if◌then◌else◌}
use Rattle.command_types.specs.declared.ask.What.{What}
use Rattle.command_types.specs.declared.ask.What.TheVariants.{Trade, Affirm, End, Hold, Free}
use Rattle.command_types.specs.declared.ask.Entry.{Entry}
use Rattle.command_types.specs.declared.cycle.Phase.TheVariants.{None as NoPhase}
use Rattle.command_types.specs.declared.figures.Start.{Start}
use Rattle.command_types.specs.declared.figures.State.{State}
use Rattle.command_types.specs.declared.trade.Side.{Side}
use Rattle.command_types.specs.declared.trade.Side.TheVariants.{Out, In}
use Rattle.command_types.specs.declared.trade.TradeRow.{TradeRow}
use Rattle.command_types.specs.Roster.{Rows, member_place, product_place, is_member_at}
use Rattle.command_types.specs.Trades.{trade_numbered, with_alleged, affirmed, ended_by, held_by, freed_by}
use Rattle.command_types.specs.Plans.{executed, thawed, count_of, is_end, is_cut, is_new}
use Rattle.command_types.specs.CycleSteps.{rows_of_member}
use Rattle.command_types.specs.Machine.{side_of}
use Rattle.command_types.specs.History.{History}
use Rattle.trade_history.specs.Moments.{Moment}
use Rattle.trade_history.specs.Search.{Execution, execution_at}

-- the place of a member and of a product; an accepted command names such as there are
abbrev pub place_of_member : Rows → List ℕ → ℕ
place_of_member roster name = unwrap_or (member_place roster name) 0

abbrev pub place_of_product : Rows → List ℕ → ℕ
place_of_product roster name = unwrap_or (product_place roster name) 0

-- the side of a party of this trade
abbrev pub side_taken : Rows → List ℕ → Option TradeRow → Side
side_taken roster by None = Out
side_taken roster by (Some row) = if is_member_at roster row.seller by then Out else In

-- the rows after a party's accepted command, by itself: a TRADE adds one, and AFFIRM, END, HOLD and FREE change one
abbrev pub rows_by : Rows → List ℕ → What → List TradeRow → List TradeRow
rows_by roster by (Trade seller buyer product amount day) rows =
    with_alleged rows (place_of_member roster seller) (place_of_member roster buyer) (place_of_product roster product) amount day (side_of by seller)
rows_by roster by (Affirm trade) rows = affirmed rows trade
rows_by roster by (End trade) rows = ended_by (side_taken roster by (trade_numbered rows trade)) rows trade
rows_by roster by (Hold trade) rows = held_by (side_taken roster by (trade_numbered rows trade)) rows trade
rows_by roster by (Free trade) rows = freed_by (side_taken roster by (trade_numbered rows trade)) rows trade
rows_by roster by what rows = rows

-- what executes is applied whole
abbrev pub with_execution : Option Execution → List TradeRow → List TradeRow
with_execution None rows = rows
with_execution (Some execution) rows = executed execution.plan rows

-- the moments so far, from the latest back, and the trade rows after them
pub record Book : Type 0 where
  pub moments : List Moment
  pub rows : List TradeRow

-- the book after a moment more
abbrev pub book_after : Rows → ℕ → Moment → List Moment → Book
book_after roster number now before = record {
  moments = now ∷ before;
  rows = with_execution (execution_at roster number (now ∷ before)) (rows_by roster (unwrap_or now.ask.by []) now.ask.what now.rows);
}

abbrev pub noted : Rows → ℕ → Book → Entry → Book
noted roster number book entry = book_after roster number (record { ask = entry.ask; rows = book.rows }) book.moments

-- the book after these changes, from a state on
abbrev pub book_from : State → List Entry → Book
book_from s entries = fold (noted s.roster s.cycle.number) (record { moments = []; rows = thawed s.trades }) entries

abbrev pub book_of : History → Book
book_of h = book_from h.base.state h.entries

-- the trades of a history
abbrev pub trades_of : History → List TradeRow
trades_of h = (book_of h).rows

-- an execution: its position, and what its plan did
pub record ExecutionRow : Type 0 where
  pub position : ℕ
  pub cycle : ℕ
  pub version : ℕ
  pub ended : ℕ
  pub cut : ℕ
  pub made : ℕ

abbrev pub execution_row : ℕ → Option Execution → List ExecutionRow
execution_row position None = []
execution_row position (Some execution) =
    record {
      position = position;
      cycle = execution.cycle;
      version = execution.version;
      ended = count_of is_end execution.plan;
      cut = count_of is_cut execution.plan;
      made = count_of is_new execution.plan;
    } ∷ []

abbrev pub executions_at : Rows → ℕ → ℕ → List Moment → List ExecutionRow
executions_at roster number position [] = []
executions_at roster number position (now ∷ before) =
    executions_at roster number position before ++ execution_row (position + length (now ∷ before)) (execution_at roster number (now ∷ before))

-- the executions of these changes after a base, in their order
abbrev pub executions_from : Start → List Entry → List ExecutionRow
executions_from base entries = executions_at base.state.roster base.state.cycle.number base.position (book_from base.state entries).moments

abbrev pub executions_of : History → List ExecutionRow
executions_of h = executions_from h.base h.entries

-- the trades of a history in which this member has a side, in rising number
abbrev pub own_rows : History → ℕ → List TradeRow
own_rows h member = rows_of_member member (trades_of h)

-- trades are numbered on from a number, in their order
abbrev pub AreNumbered : ℕ → List TradeRow → Type 0
AreNumbered number [] = Unit {0}
AreNumbered number (row ∷ rows) = (row.number ≡ suc number) × AreNumbered (suc number) rows

-- no cycle is open and no version stands, no trade is frozen, and trades are numbered from 1
pub record IsClosedBase (s : State) : Type 0 where
  pub phase : s.cycle.phase ≡ NoPhase
  pub mode : s.cycle.mode ≡ None
  pub free : thawed s.trades ≡ s.trades
  pub numbered : AreNumbered 0 s.trades
