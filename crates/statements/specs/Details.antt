-- The rows that an answer tells, and those of a replay, and their lines.
use Rattle.std.specs.Prelude.{ℕ, List, [], ◌++◌, map, codes, decimal}
use Rattle.command_types.specs.declared.answer.Answer.{Answer}
use Rattle.command_types.specs.declared.answer.Answer.TheVariants.{Statement, LimitRows, PlanRows, ProofRows}
use Rattle.command_types.specs.Roster.{Rows}
use Rattle.units_core.specs.Day.{day_text}
use Rattle.command_types.specs.declared.trade.TradeRow.{TradeRow}
use Rattle.command_types.specs.Books.{is_held}
use Rattle.command_types.specs.Text.{member_name, numbers_text, pair_text, product_name, state_text}
use Rattle.command_types.specs.Details.{held_text, trade_line, limit_text, plan_text, proof_text}
use Rattle.statements.specs.declared.details.DetailRow.{DetailRow}
use Rattle.statements.specs.declared.details.ExecutionLine.{ExecutionLine}
use Rattle.statements.specs.declared.details.DetailRow.TheVariants.{Trade, Limit, Plan, Proof, Member, Execution, Asked}

-- the front of a trade's line: its number, its parties and its product
abbrev pub parties_text : Rows → TradeRow → List ℕ
parties_text rows row =
    codes "trade " ++ decimal row.number ++ pair_text rows row.seller row.buyer ++ codes " " ++ product_name rows row.product

-- what comes behind: its amount, its day, its state, and whether a party holds it
abbrev pub standing_text : TradeRow → List ℕ
standing_text row =
    codes " " ++ decimal row.amount ++ codes " " ++ day_text row.day ++ codes " " ++ state_text row.state
    ++ codes " " ++ held_text (is_held row)

-- a trade that a plan makes
abbrev pub new_text : Rows → ℕ → ℕ → ℕ → ℕ → List ℕ
new_text rows product seller buyer amount =
    codes "new" ++ pair_text rows seller buyer ++ codes " " ++ product_name rows product ++ codes " " ++ decimal amount ++ codes "\n"

-- a member, and how many trades it has a side in
abbrev pub member_text : Rows → ℕ → ℕ → List ℕ
member_text rows member count = codes "member " ++ member_name rows member ++ codes " " ++ decimal count ++ codes "\n"

-- an execution
abbrev pub execution_text : ExecutionLine → List ℕ
execution_text line =
    codes "execution " ++ decimal line.position ++ numbers_text line.cycle line.version ++ numbers_text line.ended line.cut
    ++ codes " " ++ decimal line.made ++ codes "\n"

-- when the command was asked that executed a plan
abbrev pub moment_text : ℕ → List ℕ
moment_text moment = codes "at " ++ decimal moment ++ codes "\n"

-- the line of a row, with its line feed
abbrev pub row_text : Rows → DetailRow → List ℕ
row_text rows (Trade row) = trade_line rows row
row_text rows (Limit line) = limit_text rows line
row_text rows (Plan row) = plan_text rows row
row_text rows (Proof row) = proof_text rows row
row_text rows (Member member count) = member_text rows member count
row_text rows (Execution line) = execution_text line
row_text rows (Asked moment) = moment_text moment

-- the rows that an answer tells
abbrev pub details_of : Answer → List DetailRow
details_of (Statement trades) = map Trade trades
details_of (LimitRows limits) = map Limit limits
details_of (PlanRows cycle version plan) = map Plan plan
details_of (ProofRows head shown) = map Proof shown
details_of answer = []
