-- What was read and what was written, by the form and the end.
use Rattle.std.specs.Prelude.{◌≡◌, ℕ, Bool, Option, Some, None}
use Rattle.doors.specs.Visits.{Visits}
use Rattle.compress_server.specs.declared.ending.End.{End}
use Rattle.compress_server.specs.declared.ending.End.TheVariants.{BadWords}
use Rattle.compress_server.specs.Check.{check_end, CheckRuns}
use Rattle.compress_server.specs.Files.{FilesState}
use Rattle.compress_server.specs.Follow.{standby_end, StandbyRuns}
use Rattle.compress_server.specs.Gen.{gen_end, GenRuns}
use Rattle.compress_server.specs.Replay.{replay_end, ReplayRuns}
use Rattle.compress_server.specs.Roll.{roll_end, RollRuns}
use Rattle.compress_server.specs.Script.{script_end, ScriptRuns}
use Rattle.compress_server.specs.Seen.{InputState, Seen, IsOnlyOutput, streams_of}
use Rattle.compress_server.specs.Serve.{service_end, ServeRuns}
use Rattle.compress_server.specs.Solve.{solve_end, SolveRuns}
use Rattle.program_words.specs.Words.{Form}

-- the end is a form's own, of which this holds
abbrev pub EndsAs : {E : Type 0} → (E → End) → (E → Type 0) → End → Type 0
EndsAs {E = E} end_of P end = (own : E) × (end ≡ end_of own) × P own

-- by the end of the program: only a script and a standby read the input, and only a service asks the listener
module _ {D : Type 0} (clock : ℕ → Bool) (visits : D → Option Visits) where
  abbrev pub Runs : Option Form → FilesState → FilesState → InputState → InputState → Seen → Seen → End → Type 0
  Runs None files files' input input' before after end = (end ≡ BadWords) × (input' ≡ input) × (after ≡ before)
  Runs (Some (Form.Script roster journal workers)) files files' input input' before after end =
      (after.listener ≡ before.listener) × EndsAs script_end (ScriptRuns clock roster files files' (streams_of input before.output) (streams_of input' after.output) before.disk after.disk) end
  Runs (Some (Form.Serve roster journal address numbers)) files files' input input' before after end =
      (input' ≡ input) × EndsAs service_end (ServeRuns clock visits roster (record { address = address; seats = numbers.seats; connections = numbers.connections }) files files' before after) end
  Runs (Some (Form.Check market proposal)) files files' input input' before after end =
      (input' ≡ input) × IsOnlyOutput before after × EndsAs check_end (CheckRuns market proposal files files' before.output after.output) end
  Runs (Some (Form.Solve market workers)) files files' input input' before after end =
      (input' ≡ input) × IsOnlyOutput before after × EndsAs solve_end (SolveRuns market files files' before.output after.output) end
  Runs (Some (Form.Gen number workers)) files files' input input' before after end =
      (input' ≡ input) × IsOnlyOutput before after × EndsAs gen_end (GenRuns number before.output after.output) end
  Runs (Some (Form.Replay roster journal)) files files' input input' before after end =
      (input' ≡ input) × (after.listener ≡ before.listener) × EndsAs replay_end (ReplayRuns roster files files' before.output after.output before.disk after.disk) end
  Runs (Some (Form.Roll roster journal new_roster matured cancel)) files files' input input' before after end =
      (input' ≡ input) × (after.listener ≡ before.listener) × EndsAs roll_end (RollRuns roster new_roster matured cancel files files' before.output after.output before.disk after.disk) end
  Runs (Some (Form.Follow standby)) files files' input input' before after end =
      (after.listener ≡ before.listener) × EndsAs standby_end (StandbyRuns standby files files' (streams_of input before.output) (streams_of input' after.output) before.disk after.disk) end
