-- Changes that are made in memory, to be put on the disk together.
use Rattle.std.specs.Prelude.{◌≡◌, ℕ, ◌+◌, ◌<◌, ◌≤◌, Bool, true, false, List, [], length, reverse}
use Rattle.std.specs.List.{AllZip}
use Rattle.command_types.specs.declared.ask.Entry.{Entry}
use Rattle.command_types.specs.declared.ask.What.{What}
use Rattle.command_types.specs.declared.ask.What.TheVariants.{Trade, Affirm, End, Hold, Free, Nets}
use Rattle.command_types.specs.declared.figures.State.{State}
use Rattle.command_types.specs.declared.spelling.Spelling.TheVariants.{Second}
use Rattle.command_types.specs.History.{History, longer}
use Rattle.command_types.specs.Sizes.{frames_size, journal_limit}
use Rattle.command_types.specs.Spelling.{Spells}
use Rattle.cycle_states.specs.Replayed.{IsReplayed}
use Rattle.cycle_states.specs.Undo.{GoesBack}
use Rattle.cycle_states.specs.declared.machine.undo.Undo.{Undo}
use Rattle.journal_core.specs.Frame.{frames_length}

-- The position and the journal's bytes behind which the changes are made, they, what takes each back, and their records.
pub record BatchView : Type 0 where
  pub at : ℕ
  pub size : ℕ
  pub entries : List Entry
  pub undos : List Undo
  pub records : List (List ℕ)

-- the position behind its changes
abbrev pub end_of_batch : BatchView → ℕ
end_of_batch batch = batch.at + length batch.entries

-- the journal's bytes behind its records
abbrev pub size_of_batch : BatchView → ℕ
size_of_batch batch = batch.size + frames_length batch.records

-- the journal has room for its records, if it has any
abbrev pub FitsJournal : BatchView → Type 0
FitsJournal batch = 0 < length batch.records → size_of_batch batch ≤ journal_limit

-- without a change, behind this position and so many bytes
abbrev pub empty_batch : ℕ → ℕ → BatchView
empty_batch at size = record { at = at; size = size; entries = []; undos = []; records = [] }

-- A command of this kind may stand among others in a call: as a change it adds a trade or changes one, or it is a read that the machine
-- alone answers.
abbrev pub is_shared : What → Bool
is_shared (Trade seller buyer product amount day) = true
is_shared (Affirm trade) = true
is_shared (End trade) = true
is_shared (Hold trade) = true
is_shared (Free trade) = true
is_shared (Nets product) = true
is_shared what = false

-- these take back what was done since the first state, the newest last
abbrev pub TakeBack : State → List Undo → State → Type 0
TakeBack s undos first = GoesBack s (reverse undos) first

-- In the state to which a history leads, the changes of the batch were made behind it; they can be taken back, and its records spell them.
pub record IsMade (first s : State) (h : History) (batch : BatchView) : Type 0 where
  pub begins : IsReplayed first h
  pub replayed : IsReplayed s (longer h batch.entries)
  pub back : TakeBack s batch.undos first
  pub undos : length batch.undos ≡ length batch.entries
  pub spells : AllZip (Spells Second) batch.records batch.entries
  pub sized : frames_length batch.records ≡ frames_size batch.entries
