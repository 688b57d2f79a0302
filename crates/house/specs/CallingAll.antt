-- What a call of several commands leaves, whose changes share one append.
use Rattle.std.specs.Prelude.{◌≡◌, ◌⊎◌, ◌≤◌, true, false, List, [], ◌∷◌, ◌++◌, length, drop, IsTrue}
use Rattle.command_types.specs.declared.ask.Entry.{Entry}
use Rattle.command_types.specs.declared.answer.Reply.{Reply}
use Rattle.command_types.specs.declared.figures.State.{State}
use Rattle.command_types.specs.InTurn.{AreToldInTurn}
use Rattle.outside.specs.Faults.{Rose}
use Rattle.journal_core.specs.Moments.{LeavesOnly}
use Rattle.cycle_states.specs.Undo.{goes_back}
use Rattle.house.specs.Batch.{is_shared}
use Rattle.house.specs.Storing.{StandsForAllOrNone}
use Rattle.house.specs.House.{HouseView, figures_of, is_stopped, Keeps}
use Rattle.house.specs.Calling.{is_disk_fault}

-- the first of these commands is of a kind that is asked alone, or a change that can't be taken back in this state
abbrev pub IsAskedAlone : State → List Entry → Type 0
IsAskedAlone s [] = Unit {0}
IsAskedAlone s (command ∷ commands) = (is_shared command.ask.what ≡ false) ⊎ (goes_back s command.ask.what ≡ false)

-- these changes are among the commands, in their order
abbrev pub AreInOrder : List Entry → List Entry → Type 0
AreInOrder [] commands = Unit {0}
AreInOrder (change ∷ changes) [] = ⊥
AreInOrder (change ∷ changes) (command ∷ commands) = ((change ≡ command) × AreInOrder changes commands) ⊎ AreInOrder (change ∷ changes) commands

-- the disk failed on these changes, which are among the commands, in their order, and the first of them was told so
abbrev pub TellsFault : List Entry → List Entry → List Reply → Type 0
TellsFault (change ∷ changes) (command ∷ commands) (reply ∷ replies) =
    ((change ≡ command) × IsTrue (is_disk_fault reply.answer) × AreInOrder changes commands) ⊎ TellsFault (change ∷ changes) commands replies
TellsFault changes commands replies = ⊥

-- the changes that were put on the disk between two moments of a house: they were made, or are kept
abbrev pub tried : HouseView → HouseView → List Entry
tried old new = drop (length old.history.entries) new.history.entries ++ new.kept

-- From old to new, a call of these commands was answered by these replies, and its changes were put on the disk at once. All were made; or
-- the disk failed, none was, and they are what is kept. Then each command is answered from the history before the call: the first of them
-- is told the disk's fault, and a later change that the machine accepts there is told that the desk is stopped.
pub record CallsAll (old new : HouseView) (commands : List Entry) (replies : List Reply) : Type 0 where
  pub told : AreToldInTurn (figures_of old) (is_stopped old) (is_stopped new) old.history commands replies new.history
  -- a house that was stopped stays as it is
  pub rests : is_stopped old ≡ true → new ≡ old
  -- one that is stopped made no change
  pub none : is_stopped new ≡ true → new.history ≡ old.history
  -- what a crash at any moment of the call leaves stands for the history from before it, or for that with all that was tried
  pub any_moment : is_stopped old ≡ false
      → LeavesOnly old.disk new.disk (StandsForAllOrNone old.history (tried old new))
  pub counted : old.faults ≤ new.faults
  -- a house is stopped only where the count rose, and keeps what the disk failed on
  pub failed : is_stopped old ≡ false → is_stopped new ≡ true → Rose old.faults new.faults × TellsFault new.kept commands replies
  pub figures : figures_of new ≡ figures_of old
  pub keeps : Keeps new
