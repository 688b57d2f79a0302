-- A history in which the operator cancels the open cycle, and what is rolled of a market.
use Rattle.std.specs.Prelude.{◌≡◌, ℕ, Bool, true, false, List, [], Option, Some, None}
use Rattle.command_types.specs.declared.ask.Ask.{Ask}
use Rattle.command_types.specs.declared.ask.Entry.{Entry}
use Rattle.command_types.specs.declared.ask.What.TheVariants.{Cancel}
use Rattle.command_types.specs.declared.figures.State.{State}
use Rattle.command_types.specs.declared.roster.OperatorRow.{OperatorRow}
use Rattle.command_types.specs.Folds.{IsAtRest}
use Rattle.command_types.specs.History.{History, IsLegal, longer, recorded, replayed}
use Rattle.command_types.specs.Machine.{answer_to}

-- the party of this name asks to CANCEL the last cycle
abbrev pub cancel_ask : List ℕ → State → Ask
cancel_ask name s = record { by = Some name; what = Cancel s.cycle.number; moment = 0 }

-- what the history keeps when the operator, if there is one, asks for that: the CANCEL, if the cycle is open; if not, it is refused
abbrev pub cancel_by : Option OperatorRow → State → List Entry
cancel_by None s = []
cancel_by (Some row) s = recorded 0 (cancel_ask row.name s) (answer_to s (cancel_ask row.name s))

abbrev pub cancel_of : State → List Entry
cancel_of s = cancel_by s.roster.operator s

-- a history after its operator asked for that
abbrev pub cancelled : History → History
cancelled h = longer h (cancel_of (replayed h))

-- what is rolled of a market: the history that its journal keeps, or, with `--cancel`, that history after its operator cancelled the open cycle
abbrev pub rolled_past : Bool → History → History
rolled_past false h = h
rolled_past true h = cancelled h

-- With an operator, a legal history whose open cycle is cancelled is a legal history in which no cycle is open.
abbrev pub CancelsEndCycles : Type 0
CancelsEndCycles = (h : History) (row : OperatorRow) → IsLegal h → (replayed h).roster.operator ≡ Some row → IsLegal (cancelled h) × IsAtRest (cancelled h)
