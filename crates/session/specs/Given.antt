-- A reply that may be written: one that is right in what its session has seen by then.
use Rattle.std.specs.Prelude.{ℕ, Bool}
use Rattle.command_types.specs.declared.ask.Ask.{Ask}
use Rattle.command_types.specs.declared.answer.Reply.{Reply}
use Rattle.command_types.specs.declared.figures.Figures.{Figures}
use Rattle.command_types.specs.History.{History}
use Rattle.command_types.specs.Told.{IsTold}
use Rattle.session.specs.Serving.{Sight}

-- at its position of the history the reply is right, as the answer to a command of the seat
abbrev pub IsRight : Figures → History → ℕ → Reply → Type 0
IsRight figures h seat reply = (ask : Ask) × (before : Bool) × (after : Bool) × IsTold figures before after h seat ask reply

-- what the session has seen has the reply's position, and the reply is right there
abbrev pub IsGiven : Sight → Reply → Type 0
IsGiven sight reply = IsRight sight.seat.figures sight.history sight.seat.number reply
