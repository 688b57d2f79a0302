-- What a machine that has made a journal's changes tells of them.
use Rattle.std.specs.Prelude.{ℕ, List, [], ◌++◌, length, unwrap_or, codes, decimal}
use Rattle.command_types.specs.declared.answer.Answer.{Answer}
use Rattle.command_types.specs.declared.answer.Answer.TheVariants.{Nothing, Executed}
use Rattle.command_types.specs.declared.figures.State.{State}
use Rattle.command_types.specs.Books.{listed_below}
use Rattle.command_types.specs.CycleSteps.{rows_of_member}
use Rattle.command_types.specs.History.{end_of}
use Rattle.command_types.specs.Details.{lines_text, trade_line}
use Rattle.statements.specs.Details.{member_text, execution_text, moment_text}
use Rattle.house.specs.declared.executions.Dated.{Dated}
use Rattle.house.specs.declared.recovering.Recovered.{Recovered}
use Rattle.house.specs.Executions.{told_of}

-- a member, and the rows that the machine has of it
abbrev pub rows_told : State → ℕ → List ℕ
rows_told s member = member_text s.roster member (length (rows_of_member member s.trades)) ++ lines_text (trade_line s.roster) (rows_of_member member s.trades)

-- the two lines of an answer that tells an execution, asked for at a moment; one that touched nobody changed no trade
abbrev pub execution_told : ℕ → ℕ → Answer → List ℕ
execution_told at moment (Executed cycle version ended cut made) =
    execution_text (record { position = at; cycle = cycle; version = version; ended = ended; cut = cut; made = made }) ++ moment_text moment
execution_told at moment (Nothing cycle version) =
    execution_text (record { position = at; cycle = cycle; version = version; ended = 0; cut = 0; made = 0 }) ++ moment_text moment
execution_told at moment answer = []

abbrev pub reply_told : Dated → List ℕ
reply_told it = execution_told it.reply.at it.moment it.reply.answer

-- the last line: how many changes there are
abbrev pub end_text : ℕ → List ℕ
end_text entries = codes "end " ++ decimal entries ++ codes "\n"

-- all that is told of a state after so many changes, of which these replies told an execution
abbrev pub told_text : State → ℕ → List Dated → List ℕ
told_text s entries executions = listed_below (length s.roster.members) (rows_told s) ++ (lines_text reply_told executions ++ end_text entries)

-- all that is told of what was read of a disk
abbrev pub recovered_text : Recovered → List ℕ
recovered_text read = told_text read.machine.state (end_of read.past) (unwrap_or (told_of read.executions) [])
