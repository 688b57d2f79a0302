-- Where a machine stands that made the changes of a history.
use Rattle.std.specs.Prelude.{◌≡◌, ℕ, ◌≤◌, List}
use Rattle.command_types.specs.declared.ask.Entry.{Entry}
use Rattle.command_types.specs.declared.figures.Start.{Start}
use Rattle.command_types.specs.declared.figures.State.{State}
use Rattle.command_types.specs.History.{History, IsLegal, replayed}
use Rattle.units_core.specs.declared.limits.TheConstants.{MOST_NUMBER}

-- a position, and the state there
abbrev pub base_at : ℕ → State → Start
base_at position state = record { position = position; state = state }

-- the history of these changes from there on
abbrev pub history_from : ℕ → State → List Entry → History
history_from position state entries = record { base = base_at position state; entries = entries }

-- the machine is where the history leads, and it accepted each change at its place
pub record IsReplayed (state : State) (h : History) : Type 0 where
  pub same : state ≡ replayed h
  pub legal : IsLegal h

-- the numbers of a base leave room for more
pub record IsSmall (base : Start) : Type 0 where
  pub position : base.position ≤ MOST_NUMBER
  pub cycle : base.state.cycle.number ≤ MOST_NUMBER
  pub version : base.state.cycle.version ≤ MOST_NUMBER
