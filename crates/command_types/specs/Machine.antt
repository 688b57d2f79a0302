-- The machine that answers one command at a time: its answer now, and its state afterwards.
use Rattle.std.specs.Str.{bytes_eq}
use Rattle.std.specs.Prelude.{ℕ, pos, ◌-ℤ◌, ◌+◌, nat_lt, nat_le, length, slice_get, Bool, true, false, not, ◌&&◌, ◌||◌, is_none, is_some, List, [], ◌∷◌, Option, Some, None, unwrap_or, if◌then◌else◌}
use Rattle.command_types.specs.declared.ask.What.{What}
use Rattle.command_types.specs.declared.ask.What.TheVariants.{Hello, Trade, Affirm, End, Hold, Free, Tol, Nets, Statement, Freeze, Begin, Limits, Row, Pot, Post, Fetch, Next, Plan, Proof, Accept, Decline, Cancel, Bye, Unreadable}
use Rattle.command_types.specs.declared.ask.Ask.{Ask}
use Rattle.command_types.specs.declared.answer.Answer.{Answer}
use Rattle.command_types.specs.declared.answer.Answer.TheVariants.{Hello as Greeted, Traded, Affirmed, Marked, Ended, Held, Freed, Tolerance, Own, Statement as Statements, Begun, Noted, Declined, Cancelled, Bye as Left, Problems, NoNext, No}
use Rattle.command_types.specs.declared.refusal.Refusal.{Refusal}
use Rattle.command_types.specs.declared.refusal.Refusal.TheVariants.{BadLine, NotGreeted, BadKey, UnknownMember, UnknownProduct, OwnTrade, UnknownTrade, NotParty, AmountOver, Matured, WrongTradeState, TradeFrozen, GrossOver, TradesFull}
use Rattle.command_types.specs.declared.figures.State.{State}
use Rattle.command_types.specs.declared.roster.ProductRow.{ProductRow}
use Rattle.command_types.specs.declared.trade.Side.{Side}
use Rattle.command_types.specs.declared.trade.Side.TheVariants.{Out, In}
use Rattle.command_types.specs.declared.trade.TradeRow.{TradeRow}
use Rattle.units_core.specs.Day.{DayParts, is_before}
use Rattle.command_types.specs.Roster.{Rows, member_place, product_place, is_operator, is_key, is_party, is_member_at}
use Rattle.command_types.specs.Cycles.{closed, is_open}
use Rattle.command_types.specs.CycleRefusals.{tol_refusals, statement_refusals, freeze_refusals, begin_refusals, fetch_refusals, limits_refusals, row_refusals, pot_refusals, post_refusals, next_refusals, plan_refusals, proof_refusals, accept_refusals, decline_refusals, cancel_refusals}
use Rattle.command_types.specs.CycleSteps.{market_in, rows_of_member, with_tolerance, after_freeze, freeze_answer, after_begin, limits_answer, after_post, post_answer, plan_answer, proof_answer, after_accept, accept_answer, after_decline, after_cancel, cycle_after_end}
use Rattle.command_types.specs.Trades.{is_alleged, is_live, is_ended, gross_of, sold_by, bought_by, submitted_count, trade_numbered, with_alleged, affirmed, ended_by, held_by, freed_by, hold_of, is_marked_by}
use Rattle.units_core.specs.declared.limits.TheConstants.{MOST_GROSS, MOST_SUBMITTED, MOST_TRADE_AMOUNT}

-- the state before the first command
abbrev pub empty_state : Rows → State
empty_state rows = record { roster = rows; trades = []; tolerances = []; cycle = closed 0 0 }

-- the first refusal whose condition holds
abbrev pub first_of : List (Bool × Refusal) → Option Refusal
first_of [] = None
first_of (row ∷ rows) = if row.0 then Some row.1 else first_of rows

-- the place of the member with this name; where there is none, an earlier refusal holds
abbrev pub member_of : State → List ℕ → ℕ
member_of s name = unwrap_or (member_place s.roster name) 0

-- the place of the product with this name; where there is none, an earlier refusal holds
abbrev pub product_of : State → List ℕ → ℕ
product_of s name = unwrap_or (product_place s.roster name) 0

-- a trade's day that is not before the product's maturity
abbrev pub maturity_refusal : Option ProductRow → DayParts → Bool × Refusal
maturity_refusal None day = (false, UnknownProduct)
maturity_refusal (Some row) day = (not (is_before day row.maturity), Matured row.maturity)

-- the refusals of a TRADE by a party of the roster, each with its condition, in their order
abbrev pub trade_refusals : State → List ℕ → List ℕ → List ℕ → List ℕ → ℕ → DayParts → List (Bool × Refusal)
trade_refusals s by seller buyer product amount day =
    (is_none (member_place s.roster seller) || is_none (member_place s.roster buyer), UnknownMember)
    ∷ (is_none (product_place s.roster product), UnknownProduct)
    ∷ (bytes_eq seller buyer, OwnTrade)
    ∷ (not (bytes_eq by seller || bytes_eq by buyer), NotParty)
    ∷ (nat_lt MOST_TRADE_AMOUNT amount, AmountOver)
    ∷ maturity_refusal (slice_get s.roster.products (product_of s product)) day
    ∷ (nat_lt MOST_GROSS (gross_of (product_of s product) s.trades + amount), GrossOver)
    ∷ (nat_le MOST_SUBMITTED (submitted_count s.trades), TradesFull)
    ∷ []

-- the party stands on this side of the trade
abbrev pub is_on_side : State → List ℕ → TradeRow → Side → Bool
is_on_side s by row Out = is_member_at s.roster row.seller by
is_on_side s by row In = is_member_at s.roster row.buyer by

-- the party is one of the trade's two
abbrev pub is_party_of : State → List ℕ → TradeRow → Bool
is_party_of s by row = is_on_side s by row Out || is_on_side s by row In

-- the side of a party of the trade
abbrev pub side_in : State → List ℕ → TradeRow → Side
side_in s by row = if is_on_side s by row Out then Out else In

-- the party stands on the side that submitted the trade; a trade that a plan made has none
abbrev pub is_submitter : State → List ℕ → TradeRow → Option Side → Bool
is_submitter s by row None = false
is_submitter s by row (Some side) = is_on_side s by row side

-- the refusals of an AFFIRM: the submitter can't affirm its own trade
abbrev pub affirm_refusals : State → List ℕ → Option TradeRow → List (Bool × Refusal)
affirm_refusals s by None = (true, UnknownTrade) ∷ []
affirm_refusals s by (Some row) =
    (not (is_party_of s by row) || is_submitter s by row row.submitter, NotParty)
    ∷ (not (is_alleged row.state), WrongTradeState row.state)
    ∷ []

-- the refusals of an END: the trade has ended, or the party's mark stands
abbrev pub end_refusals : State → List ℕ → Option TradeRow → List (Bool × Refusal)
end_refusals s by None = (true, UnknownTrade) ∷ []
end_refusals s by (Some row) =
    (not (is_party_of s by row), NotParty)
    ∷ (is_ended row.state || is_marked_by (side_in s by row) row.mark, WrongTradeState row.state)
    ∷ []

-- the trade takes part in an open cycle
abbrev pub if_frozen : State → TradeRow → Bool × Refusal
if_frozen s row = (is_open s.cycle.phase && row.frozen, TradeFrozen s.cycle.number)

-- the refusals of a HOLD: the trade is not live, or the party's hold is set
abbrev pub hold_refusals : State → List ℕ → Option TradeRow → List (Bool × Refusal)
hold_refusals s by None = (true, UnknownTrade) ∷ []
hold_refusals s by (Some row) =
    (not (is_party_of s by row), NotParty)
    ∷ (not (is_live row.state) || hold_of (side_in s by row) row, WrongTradeState row.state)
    ∷ if_frozen s row
    ∷ []

-- the refusals of a FREE: the trade is not live, or the party's hold is not set
abbrev pub free_refusals : State → List ℕ → Option TradeRow → List (Bool × Refusal)
free_refusals s by None = (true, UnknownTrade) ∷ []
free_refusals s by (Some row) =
    (not (is_party_of s by row), NotParty)
    ∷ (not (is_live row.state) || not (hold_of (side_in s by row) row), WrongTradeState row.state)
    ∷ if_frozen s row
    ∷ []

-- the refusal of a NETS: the product is not there
abbrev pub nets_refusals : State → List ℕ → List (Bool × Refusal)
nets_refusals s product = (is_none (product_place s.roster product), UnknownProduct) ∷ []

-- the refusals of a command by a party of the roster, each with its condition, in their order
abbrev pub command_refusals : State → List ℕ → What → List (Bool × Refusal)
command_refusals s by (Trade seller buyer product amount day) = trade_refusals s by seller buyer product amount day
command_refusals s by (Affirm trade) = affirm_refusals s by (trade_numbered s.trades trade)
command_refusals s by (End trade) = end_refusals s by (trade_numbered s.trades trade)
command_refusals s by (Hold trade) = hold_refusals s by (trade_numbered s.trades trade)
command_refusals s by (Free trade) = free_refusals s by (trade_numbered s.trades trade)
command_refusals s by (Tol other product side floor ceiling) = tol_refusals s by other product floor ceiling
command_refusals s by (Nets product) = nets_refusals s product
command_refusals s by Statement = statement_refusals s by
command_refusals s by (Freeze day) = freeze_refusals s by
command_refusals s by (Begin cycle mode) = begin_refusals s by cycle
command_refusals s by (Fetch cycle version) = fetch_refusals s by cycle version
command_refusals s by (Limits product) = limits_refusals s by product
command_refusals s by (Row product seller buyer amount size sum) = row_refusals s by product seller buyer size sum
command_refusals s by (Pot product member value size) = pot_refusals s by product member size
command_refusals s by (Post cycle version solutions) = post_refusals s by cycle version solutions
command_refusals s by (Next position) = next_refusals s by
command_refusals s by (Plan cycle) = plan_refusals s cycle
command_refusals s by (Proof cycle) = proof_refusals s by cycle
command_refusals s by (Accept cycle version) = accept_refusals s by cycle version
command_refusals s by (Decline cycle version) = decline_refusals s by cycle version
command_refusals s by (Cancel cycle) = cancel_refusals s by cycle
command_refusals s by what = []

-- the refusals of a command, each with its condition, in their order: all but HELLO, BYE and what can't be read want a party of the roster
abbrev pub refusals : State → Option (List ℕ) → What → List (Bool × Refusal)
refusals s by (Hello name key) = (not (is_key s.roster name key), BadKey) ∷ []
refusals s by Bye = []
refusals s by (Unreadable at) = (true, BadLine at) ∷ []
refusals s by what = (not (is_party s.roster by), NotGreeted) ∷ command_refusals s (unwrap_or by []) what

-- a member's position in a product: what it owes, what it is owed, and the difference
abbrev pub position_of : ℕ → ℕ → List TradeRow → Answer
position_of product member rows =
    Own (sold_by product member rows) (bought_by product member rows) (pos (sold_by product member rows) -ℤ pos (bought_by product member rows))

-- an END of this trade ends it, or marks it
abbrev pub end_answer : ℕ → Option TradeRow → Answer
end_answer trade None = No UnknownTrade
end_answer trade (Some row) = if is_alleged row.state || is_some row.mark then Ended trade else Marked trade

-- a NETS shows a member its own position, and the operator the product's figures
abbrev pub nets_answer : State → List ℕ → ℕ → Answer
nets_answer s by product =
    if is_operator s.roster by then market_in s product else position_of product (member_of s by) s.trades

-- what an accepted command of a party is answered
abbrev pub party_answer : State → List ℕ → What → Answer
party_answer s by (Trade seller buyer product amount day) = Traded (length s.trades + 1)
party_answer s by (Affirm trade) = Affirmed trade
party_answer s by (End trade) = end_answer trade (trade_numbered s.trades trade)
party_answer s by (Hold trade) = Held trade
party_answer s by (Free trade) = Freed trade
party_answer s by (Tol other product side floor ceiling) = Tolerance
party_answer s by (Nets product) = nets_answer s by (product_of s product)
party_answer s by Statement = Statements (rows_of_member (member_of s by) s.trades)
party_answer s by (Freeze day) = freeze_answer s day
party_answer s by (Begin cycle mode) = Begun cycle (1 + s.cycle.version)
party_answer s by (Fetch cycle version) = Problems s.cycle.begun
party_answer s by (Limits product) = limits_answer s (product_of s product)
party_answer s by (Row product seller buyer amount size sum) = Noted size
party_answer s by (Pot product member value size) = Noted size
party_answer s by (Post cycle version solutions) = post_answer s solutions
party_answer s by (Next position) = NoNext
party_answer s by (Plan cycle) = plan_answer s by (member_of s by)
party_answer s by (Proof cycle) = proof_answer s (member_of s by)
party_answer s by (Accept cycle version) = accept_answer s (member_of s by)
party_answer s by (Decline cycle version) = Declined cycle version
party_answer s by (Cancel cycle) = Cancelled cycle
party_answer s by what = No NotGreeted

-- what an accepted command is answered
abbrev pub accepted : State → Option (List ℕ) → What → Answer
accepted s by (Hello name key) = Greeted name
accepted s by Bye = Left
accepted s by (Unreadable at) = No (BadLine at)
accepted s by what = party_answer s (unwrap_or by []) what

-- the refusal if there is one, and else the answer
abbrev pub refused_or : Answer → Option Refusal → Answer
refused_or answer None = answer
refused_or answer (Some refusal) = No refusal

-- what a command is answered: the first refusal whose condition holds, or else the answer
abbrev pub answer_to : State → Ask → Answer
answer_to s ask = refused_or (accepted s ask.by ask.what) (first_of (refusals s ask.by ask.what))

-- the command is of a kind that changes the machine where it is accepted; all others are reads
abbrev pub changes : What → Bool
changes (Trade seller buyer product amount day) = true
changes (Affirm trade) = true
changes (End trade) = true
changes (Hold trade) = true
changes (Free trade) = true
changes (Tol other product side floor ceiling) = true
changes (Freeze day) = true
changes (Begin cycle mode) = true
changes (Post cycle version solutions) = true
changes (Accept cycle version) = true
changes (Decline cycle version) = true
changes (Cancel cycle) = true
changes what = false

-- the answer is a refusal
abbrev pub is_refusal : Answer → Bool
is_refusal (No refusal) = true
is_refusal answer = false

-- the side that the party takes in a trade with this seller
abbrev pub side_of : List ℕ → List ℕ → Side
side_of by seller = if bytes_eq by seller then Out else In

-- the side of a party of this trade
abbrev pub side_at : State → List ℕ → Option TradeRow → Side
side_at s by None = Out
side_at s by (Some row) = side_in s by row

-- the state after a party's accepted command
abbrev pub state_by_party : State → List ℕ → What → State
state_by_party s by (Trade seller buyer product amount day) =
    record s { trades = with_alleged s.trades (member_of s seller) (member_of s buyer) (product_of s product) amount day (side_of by seller) }
state_by_party s by (Affirm trade) = record s { trades = affirmed s.trades trade }
state_by_party s by (End trade) =
    record s {
      trades = ended_by (side_at s by (trade_numbered s.trades trade)) s.trades trade;
      cycle = cycle_after_end s.cycle trade (trade_numbered s.trades trade);
    }
state_by_party s by (Hold trade) = record s { trades = held_by (side_at s by (trade_numbered s.trades trade)) s.trades trade }
state_by_party s by (Free trade) = record s { trades = freed_by (side_at s by (trade_numbered s.trades trade)) s.trades trade }
state_by_party s by (Tol other product side floor ceiling) =
    with_tolerance s (member_of s by) (product_of s product) (member_of s other) side floor ceiling
state_by_party s by (Freeze day) = after_freeze s day
state_by_party s by (Begin cycle mode) = after_begin s mode
state_by_party s by (Post cycle version solutions) = after_post s solutions
state_by_party s by (Accept cycle version) = after_accept s (member_of s by)
state_by_party s by (Decline cycle version) = after_decline s
state_by_party s by (Cancel cycle) = after_cancel s
state_by_party s by what = s

-- the state after an accepted command; who has not greeted has no name
abbrev pub state_by : State → Option (List ℕ) → What → State
state_by s by what = state_by_party s (unwrap_or by []) what

-- the state after an accepted command
abbrev pub state_after : State → Ask → State
state_after s ask = state_by s ask.by ask.what
