-- Commands that are answered one behind the other.
use Rattle.std.specs.Prelude.{◌≡◌, Bool, true, false, List, [], ◌∷◌, ◌++◌, IsTrue}
use Rattle.command_types.specs.declared.ask.Entry.{Entry}
use Rattle.command_types.specs.declared.answer.Reply.{Reply}
use Rattle.command_types.specs.declared.figures.Figures.{Figures}
use Rattle.command_types.specs.History.{History, end_of, longer, recorded, is_recorded}
use Rattle.command_types.specs.Told.{IsTold}

-- what the history keeps of these commands, which were replied to so
abbrev pub all_recorded : List Entry → List Reply → List Entry
all_recorded (command ∷ commands) (reply ∷ replies) = recorded command.seat command.ask reply.answer ++ all_recorded commands replies
all_recorded commands replies = []

-- A command is answered at the end of a history by a desk that was stopped or not before, and is or not behind it. The desk stands then
-- at the end of the next history.
pub record IsToldNext (figures : Figures) (before after : Bool) (h : History) (command : Entry) (reply : Reply) (next : History) : Type 0 where
  pub grows : next ≡ longer h (recorded command.seat command.ask reply.answer)
  pub place : reply.at ≡ end_of next
  pub told : IsTold figures before after next command.seat command.ask reply
  pub runs : IsTrue (is_recorded command.ask.what reply.answer) → after ≡ false
  pub stays : before ≡ true → after ≡ true

-- these commands are answered in turn, each where the one before it left the history and the stop
abbrev pub AreToldInTurn : Figures → Bool → Bool → History → List Entry → List Reply → History → Type 0
AreToldInTurn figures before after h [] [] next = (next ≡ h) × (after ≡ before)
AreToldInTurn figures before after h [] (reply ∷ replies) next = ⊥
AreToldInTurn figures before after h (command ∷ commands) [] next = ⊥
AreToldInTurn figures before after h (command ∷ commands) (reply ∷ replies) next =
    (middle : History) × (mid : Bool) × IsToldNext figures before mid h command reply middle × AreToldInTurn figures mid after middle commands replies next
