-- A run, as a session asks it turn by turn.
use Rattle.std.specs.Prelude.{◌≡◌, ℕ, Bool, List, [], ◌++◌, Option}
use Rattle.command_types.specs.declared.ask.Entry.{Entry}
use Rattle.session.specs.Runs.{IsRun}
use Rattle.session.specs.Serving.{roster_of}
use Rattle.session.specs.Standing.{Stand, GoesOn, IsCut}

-- the bytes are a run of a session that stands so, and these are its commands
abbrev pub IsRunOf : (ℕ → Bool) → Stand → List ℕ → List Entry → Type 0
IsRunOf clock stand run commands = IsRun clock (roster_of stand.sight) stand.sight.seat.number stand.speaker run commands

-- A session goes on by the front of a run; these commands are those of the rest.
pub record RunsOn (clock : ℕ → Bool) (old new : Stand) (taken then_taken : Option (List ℕ)) (run : List ℕ) (commands : List Entry) : Type 0 where
  pub done : List ℕ
  pub rest : List ℕ
  pub order : run ≡ done ++ rest
  pub goes_on : GoesOn clock old new [] [] taken then_taken done
  pub still : IsRunOf clock new rest commands

-- whatever run these are the commands of, the session goes on by the front of it, and the others are those of the rest
abbrev pub AsksRun : Stand → Stand → Option (List ℕ) → Option (List ℕ) → List Entry → List Entry → Type 0
AsksRun old new taken then_taken commands others =
    (clock : ℕ → Bool) (run : List ℕ) → IsRunOf clock old run commands → RunsOn clock old new taken then_taken run others

-- whatever run these are the commands of, the text of its replies was cut off
abbrev pub CutsRun : Stand → Stand → Option (List ℕ) → Option (List ℕ) → List Entry → Type 0
CutsRun old new taken then_taken commands =
    (clock : ℕ → Bool) (run : List ℕ) → IsRunOf clock old run commands → IsCut clock old new [] taken then_taken run
