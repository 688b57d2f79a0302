-- How a change that was made last is taken back.
use Rattle.std.specs.Prelude.{◌≡◌, ℕ, ◌-◌, not, ◌||◌, Bool, true, false, List, [], ◌∷◌, length, take, Option, Some, None, is_some, IsTrue}
use Rattle.command_types.specs.declared.ask.What.{What}
use Rattle.command_types.specs.declared.ask.What.TheVariants.{Trade, Affirm, End, Hold, Free}
use Rattle.command_types.specs.declared.figures.State.{State}
use Rattle.command_types.specs.declared.trade.TradeRow.{TradeRow}
use Rattle.command_types.specs.Cycles.{may_break}
use Rattle.command_types.specs.Trades.{is_alleged, trade_numbered, with_row}
use Rattle.acceptance.specs.Laws.{frozen_of}
use Rattle.product_book.specs.Book.{may_take_back, MayPutBack}
use Rattle.cycle_states.specs.declared.machine.effect.Effect.{Effect}
use Rattle.cycle_states.specs.declared.machine.effect.Effect.TheVariants as effect
use Rattle.cycle_states.specs.declared.machine.undo.Undo.{Undo}
use Rattle.cycle_states.specs.declared.machine.undo.Undo.TheVariants as undo

-- the trades before: the last one was not there, or this one was as said
abbrev pub rows_undone : List TradeRow → Undo → List TradeRow
rows_undone rows undo.TakeBack = take (length rows - 1) rows
rows_undone rows (undo.PutBack was) = with_row rows was.number (Some was)

-- the state before
abbrev pub undone : State → Undo → State
undone s u = record s { trades = rows_undone s.trades u }

-- the last trade is there and a party submitted it, or this one is there with the same terms
abbrev pub MayTakeBack : List TradeRow → Undo → Type 0
MayTakeBack rows undo.TakeBack = IsTrue (may_take_back (trade_numbered rows (length rows)))
MayTakeBack rows (undo.PutBack was) = MayPutBack (trade_numbered rows was.number) was

-- the change may be taken back in this state, which leaves the frozen trades but for their marks, while the cycle may break
pub record MayUndo (s : State) (u : Undo) : Type 0 where
  pub trades : MayTakeBack s.trades u
  pub frozen : IsTrue (may_break s.cycle.phase) → frozen_of (rows_undone s.trades u) ≡ frozen_of s.trades

-- it leads back from the state after to the one before
abbrev pub Undoes : State → State → Undo → Type 0
Undoes before after u = (undone after u ≡ before) × MayUndo after u

-- these lead back, the newest first, from a state to the first one
abbrev pub GoesBack : State → List Undo → State → Type 0
GoesBack s [] first = s ≡ first
GoesBack s (u ∷ us) first = MayUndo s u × GoesBack (undone s u) us first

-- an END of the trade only marks it
abbrev pub only_marks : Option TradeRow → Bool
only_marks None = false
only_marks (Some row) = not (is_alleged row.state || is_some row.mark)

-- a change of this kind is taken back: it adds a trade, or changes one and nothing else
abbrev pub goes_back : State → What → Bool
goes_back s (Trade seller buyer product amount day) = true
goes_back s (Affirm trade) = true
goes_back s (End trade) = only_marks (trade_numbered s.trades trade)
goes_back s (Hold trade) = true
goes_back s (Free trade) = true
goes_back s what = false

-- and so is this effect
abbrev pub is_of_one_row : List TradeRow → Effect → Bool
is_of_one_row rows (effect.Allege seller buyer product amount day submitter) = true
is_of_one_row rows (effect.Affirm trade) = true
is_of_one_row rows (effect.End trade side) = only_marks (trade_numbered rows trade)
is_of_one_row rows (effect.Hold trade side) = true
is_of_one_row rows (effect.Free trade side) = true
is_of_one_row rows other = false

-- it leads back, whatever is frozen
abbrev pub LeadsBack : State → State → Undo → Type 0
LeadsBack before after u = (undone after u ≡ before) × MayTakeBack after.trades u

-- of a trade as it is now
abbrev pub PutsBack : List TradeRow → ℕ → Undo → Type 0
PutsBack rows trade u = (was : TradeRow) × (u ≡ undo.PutBack was) × (trade_numbered rows trade ≡ Some was) × (was.number ≡ trade)
