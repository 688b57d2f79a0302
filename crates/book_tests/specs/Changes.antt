-- Changes of a machine, one after another.
use Rattle.std.specs.Prelude.{ℕ, ◌≤◌, List, length}
use Rattle.command_types.specs.declared.ask.Entry.{Entry}
use Rattle.command_types.specs.declared.figures.State.{State}
use Rattle.cycle_states.specs.Replayed.{history_from, IsReplayed}

-- at most so many changes, each of which a machine accepts at its place, lead from this state to that one
pub record LeadTo (most : ℕ) (from to : State) : Type 0 where
  pub entries : List Entry
  pub few : length entries ≤ most
  pub replayed : IsReplayed to (history_from 0 from entries)
