-- What the program tells of its end: its status, and a line on the errors.
use Rattle.std.specs.Prelude.{◌≡◌, ◌⊎◌, ℕ, Bool, true, List, Option}
use Rattle.doors.specs.Visits.{Visits}
use Rattle.outside.specs.Faults.{Rose}
use Rattle.outside.specs.Flow.{Takes, TakesFront}
use Rattle.compress_server.specs.declared.ending.End.{End}
use Rattle.compress_server.specs.declared.ending.End.TheVariants.{Memory}
use Rattle.compress_server.specs.Ending.{Runs}
use Rattle.compress_server.specs.Seen.{OutputState, World}
use Rattle.compress_server.specs.Statuses.{status_of, line_of, wants_memory}
use Rattle.program_words.specs.Words.{Form}

-- The line was written, or a front of it up to a fault of its sink.
abbrev pub IsReported : OutputState → OutputState → List ℕ → Type 0
IsReported errors errors' line = Takes errors.taken errors'.taken line ⊎ (TakesFront errors.taken errors'.taken line × Rose errors.faults errors'.faults)

-- the status of this end, with its line
abbrev pub IsTold : OutputState → OutputState → End → ℕ → Type 0
IsTold errors errors' end status = (status ≡ status_of end) × IsReported errors errors' (line_of end)

-- so it is of the end; or of want of memory, where there was none for the end's line
abbrev pub TellsEnd : OutputState → OutputState → End → ℕ → Type 0
TellsEnd errors errors' end status = IsTold errors errors' end status ⊎ ((wants_memory end ≡ true) × IsTold errors errors' Memory status)

-- From before to after the program did what its words ask for, up to an end whose status this is.
pub record Ends {D : Type 0} (clock : ℕ → Bool) (visits : D → Option Visits) (form : Option Form) (before after : World) (status : ℕ) : Type 0 where
  pub end : End
  pub runs : Runs clock visits form before.files after.files before.input after.input before.seen after.seen end
  pub tells : TellsEnd before.errors after.errors end status

-- the status that is told of an end is the end's, or 9 where there was no memory for its line
abbrev pub StatusesTellTheEnd : Type 0
StatusesTellTheEnd = (errors errors' : OutputState) (end : End) (status : ℕ) → TellsEnd errors errors' end status →
    (status ≡ status_of end) ⊎ ((wants_memory end ≡ true) × (status ≡ 9))
