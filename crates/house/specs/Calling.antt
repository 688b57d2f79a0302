-- What a call of a house leaves.
use Rattle.std.specs.Prelude.{◌≡◌, ◌≢◌, ◌⊎◌, ℕ, ◌≤◌, not, ◌||◌, Bool, true, false, IsTrue, Some, [], ◌∷◌}
use Rattle.command_types.specs.declared.ask.Ask.{Ask}
use Rattle.command_types.specs.declared.answer.Answer.{Answer}
use Rattle.command_types.specs.declared.answer.Answer.TheVariants.{No}
use Rattle.command_types.specs.declared.answer.Reply.{Reply}
use Rattle.command_types.specs.declared.refusal.Refusal.TheVariants.{DiskFault, Memory}
use Rattle.command_types.specs.declared.ask.What.{What}
use Rattle.command_types.specs.History.{History, end_of, longer, recorded, is_recorded}
use Rattle.command_types.specs.Offers.{with_entries}
use Rattle.command_types.specs.Told.{IsTold}
use Rattle.cycle_states.specs.Offers.{open_ask}
use Rattle.cycle_states.specs.declared.offers.OpenAsk.{OpenAsk}
use Rattle.cycle_states.specs.declared.offers.OpenAsk.TheVariants as asks
use Rattle.outside.specs.Faults.{Rose}
use Rattle.journal_core.specs.Moments.{LeavesOnly}
use Rattle.house.specs.Storing.{StandsForEither}
use Rattle.house.specs.House.{HouseView, figures_of, is_stopped, Keeps}

-- the answer has what the history tells of a command that asks this of it, and that a machine answers so; or it asks for an entry, for
-- which there was no memory
abbrev pub IsFilled : History → OpenAsk → Answer → Answer → Type 0
IsFilled h asked machine answer = ((answer ≡ No Memory) × (asked ≢ asks.Other)) ⊎ ((what : What) → open_ask what ≡ asked → answer ≡ with_entries h.base h.entries what machine)

-- the disk failed in this call
abbrev pub is_disk_fault : Answer → Bool
is_disk_fault (No DiskFault) = true
is_disk_fault answer = false

-- From old to new, a call of a command under this seat was answered by the reply.
pub record Calls (old new : HouseView) (seat : ℕ) (ask : Ask) (reply : Reply) : Type 0 where
  pub place : reply.at ≡ end_of new.history
  pub told : IsTold (figures_of old) (is_stopped old) (is_stopped new) new.history seat ask reply
  pub grows : new.history ≡ longer old.history (recorded seat ask reply.answer)
  -- a house that was stopped stays as it is
  pub rests : is_stopped old ≡ true → new ≡ old
  pub runs : IsTrue (is_recorded ask.what reply.answer) → is_stopped new ≡ false
  -- all is as it was, unless the change was made or the disk failed
  pub same : IsTrue (not (is_recorded ask.what reply.answer || is_disk_fault reply.answer)) → new ≡ old
  -- what a crash at any moment of the call leaves stands for the history from before it, or for that with the one entry
  pub any_moment : is_stopped old ≡ false → LeavesOnly old.disk new.disk (StandsForEither old.history (record { seat = seat; ask = ask }))
  -- a fault is told only where the count rose, and keeps its change
  pub counted : old.faults ≤ new.faults
  pub failed : IsTrue (is_disk_fault reply.answer) → Rose old.faults new.faults × (new.kept ≡ record { seat = seat; ask = ask } ∷ [])
  pub figures : figures_of new ≡ figures_of old
  pub keeps : Keeps new
