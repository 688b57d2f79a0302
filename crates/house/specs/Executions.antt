-- The replies that told an execution, among those to the changes of a history, with the moments of these.
use Rattle.std.specs.Prelude.{ℕ, ◌+◌, List, [], ◌∷◌, ◌++◌, Option, option_map, if◌then◌else◌}
use Rattle.command_types.specs.declared.answer.Answer.{Answer}
use Rattle.command_types.specs.declared.ask.Entry.{Entry}
use Rattle.command_types.specs.declared.figures.State.{State}
use Rattle.command_types.specs.Machine.{answer_to, state_after}
use Rattle.trade_history.specs.Laws.{is_execution}
use Rattle.house.specs.declared.executions.Dated.{Dated}
use Rattle.house.specs.declared.executions.Executions.{Executions}

-- the reply with this answer at this position, to a change of this moment, where it tells an execution
abbrev pub told_by : ℕ → Answer → ℕ → List Dated
told_by at answer moment = if is_execution answer then record { reply = record { at = at; answer = answer }; moment = moment } ∷ [] else []

-- the replies to these changes that tell an execution, from a state on that was reached by n changes
abbrev pub executions_told : State → ℕ → List Entry → List Dated
executions_told s n [] = []
executions_told s n (entry ∷ entries) = told_by (n + 1) (answer_to s entry.ask) entry.ask.moment ++ executions_told (state_after s entry.ask) (n + 1) entries

-- those that are kept, where any are
abbrev pub told_of : Executions → Option (List Dated)
told_of executions = option_map (λ replies. replies.items) executions.replies
