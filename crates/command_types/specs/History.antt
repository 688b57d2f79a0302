-- The history of accepted changes.
use Rattle.std.specs.Prelude.{ℕ, ◌+◌, ◌-◌, ◌==◌, Bool, not, ◌&&◌, List, [], ◌∷◌, ◌++◌, length, take, drop, fold, filter, IsTrue, All, if◌then◌else◌}
use Rattle.network_laws.specs.Solutions.{SolutionData, IsSolution}
use Rattle.command_types.specs.declared.ask.Ask.{Ask}
use Rattle.command_types.specs.declared.ask.What.{What}
use Rattle.command_types.specs.declared.ask.What.TheVariants.{Post}
use Rattle.command_types.specs.declared.ask.Entry.{Entry}
use Rattle.command_types.specs.declared.answer.Answer.{Answer}
use Rattle.command_types.specs.declared.figures.Start.{Start}
use Rattle.command_types.specs.declared.figures.State.{State}
use Rattle.command_types.specs.Machine.{answer_to, state_after, changes, is_refusal}

-- where it begins, and the changes since
pub record History : Type 0 where
  pub base : Start
  pub entries : List Entry

-- the history without a change, from position 0 on
abbrev pub new_history : State → History
new_history s = record { base = record { position = 0; state = s }; entries = [] }

-- the position of its end, which is its length
abbrev pub end_of : History → ℕ
end_of h = h.base.position + length h.entries

-- the history with these further changes
abbrev pub longer : History → List Entry → History
longer h more = record h { entries = h.entries ++ more }

-- the history up to this position
abbrev pub cut_after : History → ℕ → History
cut_after h n = record h { entries = take (n - h.base.position) h.entries }

-- the state after these changes
abbrev pub replayed_from : State → List Entry → State
replayed_from s entries = fold (λ state entry. state_after state entry.ask) s entries

-- the state at the history's end
abbrev pub replayed : History → State
replayed h = replayed_from h.base.state h.entries

-- the answer tells that the command was accepted and changed the machine
abbrev pub is_recorded : What → Answer → Bool
is_recorded what answer = changes what && not (is_refusal answer)

-- what the history keeps of a command that was answered so
abbrev pub recorded : ℕ → Ask → Answer → List Entry
recorded seat ask answer = if is_recorded ask.what answer then record { seat = seat; ask = ask } ∷ [] else []

-- the solutions that a change posts, if it is a POST
abbrev pub solutions_posted : What → List SolutionData
solutions_posted (Post cycle version solutions) = solutions
solutions_posted what = []

-- The machine accepts the change in this state, and each solution that it posts is well-formed: plain data can hold what no `Solution` of the code has, as rows out of order.
abbrev pub IsAcceptedIn : State → Entry → Type 0
IsAcceptedIn s entry = IsTrue (is_recorded entry.ask.what (answer_to s entry.ask)) × All IsSolution (solutions_posted entry.ask.what)

-- each of these changes is one that the machine accepts, after the ones before it
abbrev pub IsLegalFrom : State → List Entry → Type 0
IsLegalFrom s [] = Unit {0}
IsLegalFrom s (entry ∷ entries) = IsAcceptedIn s entry × IsLegalFrom (state_after s entry.ask) entries

-- each entry is a change that the machine accepts at its place
abbrev pub IsLegal : History → Type 0
IsLegal h = IsLegalFrom h.base.state h.entries

-- the changes of a seat after a position
abbrev pub entries_of_seat : History → ℕ → ℕ → List Entry
entries_of_seat h seat n = filter (λ entry. entry.seat == seat) (drop (n - h.base.position) h.entries)
