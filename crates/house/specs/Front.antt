-- What some commands come to in memory, one behind the other.
use Rattle.std.specs.Prelude.{◌≡◌, ◌⊎◌, ◌≤◌, ◌<◌, ◌+◌, ◌^◌, ℕ, zero, suc, true, false, All, List, [], ◌∷◌, length, take}
use Rattle.command_types.specs.declared.ask.Entry.{Entry}
use Rattle.command_types.specs.declared.answer.Reply.{Reply}
use Rattle.command_types.specs.declared.figures.State.{State}
use Rattle.command_types.specs.History.{History, end_of, longer}
use Rattle.command_types.specs.Sizes.{frame_size, journal_limit}
use Rattle.cycle_states.specs.Replayed.{IsReplayed, IsSmall}
use Rattle.house.specs.Batch.{BatchView, is_shared, IsMade}
use Rattle.command_types.specs.InTurn.{AreToldInTurn}
use Rattle.house.specs.CallingAll.{AreInOrder}
use Rattle.house.specs.House.{HouseView, bytes_of, figures_of, is_stopped}
use Rattle.house.specs.Step.{IsAcceptedChange}

-- A history leads to the state and ends at this position, and has no more changes than a journal of so many bytes and its base may have.
pub record IsBegun (s : State) (at size : ℕ) : Type 0 where
  pub h : History
  pub replayed : IsReplayed s h
  pub small : IsSmall h.base
  pub few : length h.entries < 2 ^ 62
  pub within : length h.entries ≤ journal_limit + size
  pub ends : end_of h ≡ at

-- the house runs, its machine stands in this state, and its journal has so many bytes
pub record IsRunningAt (v : HouseView) (s : State) (size : ℕ) : Type 0 where
  pub replayed : IsReplayed s v.history
  pub bytes : bytes_of v ≡ size
  pub opened : v.opening ≤ length v.history.entries
  pub runs : is_stopped v ≡ false

-- These changes are among the commands, in their order, and so many commands stand before the first of them; where there is no change,
-- so many stand here.
abbrev pub AreFrom : ℕ → List Entry → List Entry → Type 0
AreFrom before [] commands = length commands ≡ before
AreFrom before (change ∷ changes) [] = ⊥
AreFrom zero (change ∷ changes) (command ∷ commands) = (change ≡ command) × AreInOrder changes commands
AreFrom (suc before) (change ∷ changes) (command ∷ commands) = AreFrom before (change ∷ changes) commands

-- so many stand before the first change, where one command more was answered
abbrev pub before_more : ℕ → List Entry → ℕ
before_more before [] = before + 1
before_more before (change ∷ changes) = before

-- Where the batch has no change, the state is the first one, and there is no record. Else its first change is accepted in the first state,
-- and has room in the journal.
pub record IsFirstAccepted (s then : State) (batch : BatchView) : Type 0 where
  pub unmade : batch.entries ≡ [] → then ≡ s
  pub unwritten : batch.entries ≡ [] → batch.records ≡ []
  pub accepted : (change : Entry) (others : List Entry) → batch.entries ≡ change ∷ others
      → IsAcceptedChange s change × (batch.size + frame_size change.ask ≤ journal_limit)

-- From one state to the next these commands were answered by these replies in memory. The changes of the batch are those that were made,
-- in their order.
pub record IsFront (s then : State) (batch : BatchView) (before : ℕ) (commands : List Entry) (replies : List Reply) : Type 0 where
  pub made : (h : History) → IsReplayed s h → IsMade s then h batch
  pub told : (v : HouseView) → IsRunningAt v s batch.size → batch.at ≡ end_of v.history
      → AreToldInTurn (figures_of v) false false v.history commands replies (longer v.history batch.entries)
  pub shared : All (λ (command : Entry). is_shared command.ask.what ≡ true) commands
  pub order : AreFrom before batch.entries commands
  pub many : length batch.entries ≤ length commands
  -- those before the first change are answered in the history from before it
  pub idle : (v : HouseView) → IsRunningAt v s batch.size → batch.at ≡ end_of v.history
      → AreToldInTurn (figures_of v) false false v.history (take before commands) (take before replies) v.history
  pub first : IsFirstAccepted s then batch
