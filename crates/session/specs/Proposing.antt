-- What the steps of a PROPOSE do to what a session has seen.
use Rattle.std.specs.Prelude.{◌⊎◌, ℕ, Bool, true, false, List, Option, Some, None}
use Rattle.network_laws.specs.Solutions.{ProblemData}
use Rattle.command_types.specs.declared.ask.Entry.{Entry}
use Rattle.command_types.specs.declared.answer.Answer.{Answer}
use Rattle.command_types.specs.declared.answer.Answer.TheVariants.{Begun, Problems}
use Rattle.command_types.specs.declared.answer.Reply.{Reply}
use Rattle.command_types.specs.declared.cycle.Mode.{Mode}
use Rattle.command_types.specs.Session.{IsUnsolved, IsPosted, IsFetched, IsProposed}
use Rattle.session.specs.Serving.{Sight, Grows, mark}

-- the version that an answer tells to have begun
abbrev pub begun_version : Answer → Option ℕ
begun_version (Begun cycle version) = Some version
begun_version answer = None

-- the answer gives a version's problems
abbrev pub has_problems : Answer → Bool
has_problems (Problems problems) = true
has_problems answer = false

-- The problems are solved and posted, or there is no memory for that.
pub record Posts (clock : ℕ → Bool) (old new : Sight) (by : Option (List ℕ)) (cycle version begun_at : ℕ) (problems : List ProblemData) (reply : Reply) : Type 0 where
  pub made : List Entry
  pub grows : Grows old new made
  pub goes_on : IsUnsolved begun_at (mark old) reply made (mark new) ⊎ IsPosted clock old.seat.figures new.history old.seat.number (mark old) by cycle version problems reply made (mark new)

-- The problems of the version are asked for, and what follows on that.
pub record Fetches (clock : ℕ → Bool) (old new : Sight) (by : Option (List ℕ)) (cycle version begun_at : ℕ) (reply : Reply) : Type 0 where
  pub made : List Entry
  pub grows : Grows old new made
  pub fetched : IsFetched clock old.seat.figures new.history old.seat.number (mark old) by cycle version begun_at reply made (mark new)

-- A version is begun, and what follows on that.
pub record Proposes (clock : ℕ → Bool) (old new : Sight) (by : Option (List ℕ)) (cycle : ℕ) (mode : Mode) (reply : Reply) : Type 0 where
  pub made : List Entry
  pub grows : Grows old new made
  pub proposed : IsProposed clock old.seat.figures new.history old.seat.number (mark old) by cycle mode reply made (mark new)
