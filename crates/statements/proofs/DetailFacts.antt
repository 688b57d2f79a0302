-- The detail lines of an answer are the lines of its rows.
use Rattle.std.proofs.Common.{◌≡◌, List, [], ◌∷◌, ◌++◌, map, refl, ap}
use Rattle.command_types.specs.declared.answer.Answer.{Answer}
use Rattle.command_types.specs.declared.answer.Answer.TheVariants.{Statement, LimitRows, PlanRows, ProofRows}
use Rattle.command_types.specs.Roster.{Rows}
use Rattle.command_types.specs.Details.{lines_text, details_text}
use Rattle.statements.specs.declared.details.DetailRow.{DetailRow}
use Rattle.statements.specs.declared.details.DetailRow.TheVariants.{Trade, Limit, Plan, Proof}
use Rattle.statements.specs.Details.{row_text, details_of}

lines_of_kind : {T : Type 0} (kind : T → DetailRow) (rows : Rows) (list : List T) → lines_text (λ row. row_text rows (kind row)) list ≡ lines_text (row_text rows) (map kind list)
lines_of_kind kind rows [] = refl
lines_of_kind kind rows (row ∷ list) = ap (λ text. row_text rows (kind row) ++ text) (lines_of_kind kind rows list)

pub details_by_row : (rows : Rows) (answer : Answer) → details_text rows answer ≡ lines_text (row_text rows) (details_of answer)
details_by_row rows (Statement trades) = lines_of_kind Trade rows trades
details_by_row rows (LimitRows limits) = lines_of_kind Limit rows limits
details_by_row rows (PlanRows cycle version plan) = lines_of_kind Plan rows plan
details_by_row rows (ProofRows head shown) = lines_of_kind Proof rows shown
details_by_row rows answer = refl
