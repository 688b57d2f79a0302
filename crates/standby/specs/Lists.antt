-- The list of all entries of a history, from position 0 on.
use Rattle.std.specs.Prelude.{◌≡◌, ℕ, List, ◌++◌, length}
use Rattle.command_types.specs.declared.ask.Entry.{Entry}
use Rattle.command_types.specs.Machine.{empty_state}
use Rattle.command_types.specs.History.{History, replayed_from}
use Rattle.command_types.specs.Roster.{Rows}
use Rattle.recovery.specs.StandsFor.{StandsFor}

-- The history stands for the list of all entries: its base has the position and the state of a front of the list, from the
-- roster's empty state on, and its entries are the others. Where the front is empty, the base is position 0.
pub record IsHistoryOf (roster : Rows) (h : History) (entries : List Entry) : Type 0 where
  pub front : List Entry
  pub split : entries ≡ front ++ h.entries
  pub place : h.base.position ≡ length front
  pub state : h.base.state ≡ replayed_from (empty_state roster) front

-- the file stands for a history of this list
abbrev pub StandsForList : List ℕ → List Entry → Type 0
StandsForList file entries = (h : History) × StandsFor file h × IsHistoryOf h.base.state.roster h entries

-- the list begins with these entries
abbrev pub BeginsWith : List Entry → List Entry → Type 0
BeginsWith entries front = (more : List Entry) × (entries ≡ front ++ more)
