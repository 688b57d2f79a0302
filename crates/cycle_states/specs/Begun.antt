-- The problems that a version begins with.
use Rattle.std.specs.Prelude.{◌≡◌, List, IsTrue, ⊤}
use Rattle.network_laws.specs.Solutions.{ProblemData}
use Rattle.command_types.specs.declared.ask.What.{What}
use Rattle.command_types.specs.declared.ask.What.TheVariants.{Post}
use Rattle.command_types.specs.declared.figures.State.{State}
use Rattle.command_types.specs.Cycles.{is_solving, problems_of}
use Rattle.cycle_states.specs.declared.machine.begun.Found.{Found}
use Rattle.cycle_states.specs.declared.machine.begun.Found.TheVariants as found

-- those that were made, and else those that follow from what there was when the version began
abbrev pub problems_in : Found → List ProblemData
problems_in (found.Made problems) = problems.items
problems_in (found.Open roster book tolerances mode) = problems_of roster.value book.value.rows tolerances.value.settings mode

-- these are the problems that a POST's certificates are for; no other command is checked by any
abbrev pub AreCheckedBy : State → What → List ProblemData → Type 0
AreCheckedBy s (Post cycle version solutions) problems = IsTrue (is_solving s.cycle.phase) → problems ≡ s.cycle.begun
AreCheckedBy s what problems = ⊤
