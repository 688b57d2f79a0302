-- The laws of replies.
use Rattle.std.specs.Prelude.{ℕ, Bool, List}
use Rattle.command_types.specs.declared.ask.Ask.{Ask}
use Rattle.command_types.specs.declared.ask.Entry.{Entry}
use Rattle.command_types.specs.declared.answer.Answer.{Answer}
use Rattle.command_types.specs.declared.figures.Start.{Start}
use Rattle.command_types.specs.declared.figures.Figures.{Figures}
use Rattle.command_types.specs.Told.{IsRecorded, IsNotRecorded, IsHouse, IsMemory}

-- no two of these four hold together
pub record AtMostOne (a b c d : Type 0) : Type 0 where
  pub a_b : a → b → ⊥
  pub a_c : a → c → ⊥
  pub a_d : a → d → ⊥
  pub b_c : b → c → ⊥
  pub b_d : b → d → ⊥
  pub c_d : c → d → ⊥

-- At one position an answer to a command is right by at most one of the four cases of `IsTold`.
abbrev pub ToldCasesExclude : Type 0
ToldCasesExclude =
    (figures : Figures) (before after : Bool) (base : Start) (front : List Entry) (seat n : ℕ) (ask : Ask) (answer : Answer) →
    AtMostOne
    (IsRecorded base.state front seat ask answer)
    (IsNotRecorded base front ask answer)
    (IsHouse figures.journal figures before after base.state front n ask answer)
    (IsMemory figures ask.what answer)
