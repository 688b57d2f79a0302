-- What a command comes to in memory, behind the changes of a batch.
use Rattle.std.specs.Prelude.{◌≡◌, ◌⊎◌, ℕ, ◌+◌, ◌≤◌, ◌<◌, not, All, List, [], ◌∷◌, ◌++◌, length, IsTrue}
use Rattle.network_laws.specs.Solutions.{IsSolution}
use Rattle.command_types.specs.declared.ask.Entry.{Entry}
use Rattle.command_types.specs.declared.answer.Answer.TheVariants.{No}
use Rattle.command_types.specs.declared.answer.Reply.{Reply}
use Rattle.command_types.specs.declared.figures.State.{State}
use Rattle.command_types.specs.declared.refusal.Refusal.TheVariants.{JournalFull, Stopped, Memory}
use Rattle.command_types.specs.declared.spelling.Spelling.TheVariants.{Second}
use Rattle.command_types.specs.History.{is_recorded, solutions_posted}
use Rattle.command_types.specs.Machine.{answer_to, state_after}
use Rattle.command_types.specs.Sizes.{frame_size, record_size, journal_limit}
use Rattle.command_types.specs.Spelling.{Spells}
use Rattle.cycle_states.specs.Undo.{Undoes}
use Rattle.cycle_states.specs.declared.machine.undo.Undo.{Undo}
use Rattle.journal_core.specs.Frame.{frames_length}
use Rattle.house.specs.Batch.{BatchView, FitsJournal, end_of_batch, size_of_batch}
use Rattle.house.specs.Chronicle.{ChronicleView}
use Rattle.house.specs.declared.chronicle.TheConstants.{VOTES_ROOM}

-- there is room for its records beside the history's, and for the votes of all members, if it has any
abbrev pub HasRecordRoom : BatchView → ChronicleView → Type 0
HasRecordRoom batch past = 0 < length batch.records → frames_length batch.records + VOTES_ROOM ≤ past.room

-- What a batch comes to beside a history: it begins where it did, the history stays, and there is room for its records in the journal and
-- beside the history's.
pub record GoesOn (old new : BatchView) (before after : ChronicleView) : Type 0 where
  pub at : new.at ≡ old.at
  pub size : new.size ≡ old.size
  pub history : after.history ≡ before.history
  pub fits : FitsJournal new
  pub room : HasRecordRoom new after

-- the machine accepts the change in this state
abbrev pub IsAcceptedChange : State → Entry → Type 0
IsAcceptedChange s command = IsTrue (is_recorded command.ask.what (answer_to s command.ask))

-- this record of the change is the newest of the batch, which is otherwise as it was
pub record IsWritten (old new : BatchView) (change : Entry) : Type 0 where
  pub bytes : List ℕ
  pub more : new ≡ record old { records = old.records ++ bytes ∷ [] }
  pub spells : Spells Second bytes change
  pub sized : length bytes ≡ record_size change.ask

-- The change was made, and is the newest of the batch: it can be taken back, its record is the newest too, and it is answered behind it.
pub record IsMadeNext (s then : State) (old new : BatchView) (command : Entry) (reply : Reply) : Type 0 where
  pub replied : reply ≡ record { at = end_of_batch old + 1; answer = answer_to s command.ask }
  pub accepted : IsAcceptedChange s command
  pub solutions : All IsSolution (solutions_posted command.ask.what)
  pub state : then ≡ state_after s command.ask
  pub undo : Undo
  pub undoes : Undoes s then undo
  pub bytes : List ℕ
  pub more : new ≡ record old { entries = old.entries ++ command ∷ []; undos = old.undos ++ undo ∷ []; records = old.records ++ bytes ∷ [] }
  pub spells : Spells Second bytes command
  pub sized : length bytes ≡ record_size command.ask

-- The command is answered so in this state, and changes nothing: by the machine; by a journal that has so many bytes and no room; or for
-- want of memory.
abbrev pub IsToldHere : State → ℕ → ℕ → Entry → Reply → Type 0
IsToldHere s size at command reply =
    ((reply ≡ record { at = at; answer = answer_to s command.ask }) × IsTrue (not (is_recorded command.ask.what (answer_to s command.ask))))
    ⊎ (IsAcceptedChange s command × (journal_limit < size + frame_size command.ask) × (reply ≡ record { at = at; answer = No (JournalFull size) }))
    ⊎ (reply ≡ record { at = at; answer = No Memory })

-- a command is answered so behind the changes of the old batch
abbrev pub IsStep : State → State → BatchView → BatchView → Entry → Reply → Type 0
IsStep s then old new command reply =
    IsMadeNext s then old new command reply ⊎ ((then ≡ s) × (new ≡ old) × IsToldHere s (size_of_batch old) (end_of_batch old) command reply)

-- The command is answered so in this state after the disk failed, and changes nothing: as above, or, where the machine accepts the change
-- and the journal, which has so many bytes, has the room, since the desk is stopped.
abbrev pub IsToldAfterFault : State → ℕ → ℕ → Entry → Reply → Type 0
IsToldAfterFault s size at command reply =
    IsToldHere s size at command reply
    ⊎ (IsAcceptedChange s command × (size + frame_size command.ask ≤ journal_limit) × (reply ≡ record { at = at; answer = No (Stopped at) }))

-- and these are, each in the same state
abbrev pub AreToldAfterFault : State → ℕ → ℕ → List Entry → List Reply → Type 0
AreToldAfterFault s size at [] [] = Unit {0}
AreToldAfterFault s size at [] (reply ∷ replies) = ⊥
AreToldAfterFault s size at (command ∷ commands) [] = ⊥
AreToldAfterFault s size at (command ∷ commands) (reply ∷ replies) = IsToldAfterFault s size at command reply × AreToldAfterFault s size at commands replies
