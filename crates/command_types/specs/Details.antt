-- The detail lines of replies, which follow the head line.
use Rattle.std.specs.Prelude.{ℕ, Bool, true, false, List, [], ◌∷◌, ◌++◌, Option, Some, None, codes, decimal}
use Rattle.std.specs.Fmt.{signed_decimal}
use Rattle.units_core.specs.Day.{day_text}
use Rattle.command_types.specs.declared.answer.Answer.{Answer}
use Rattle.command_types.specs.declared.answer.Answer.TheVariants.{Statement, LimitRows, PlanRows, ProofRows, EntryBytes}
use Rattle.command_types.specs.declared.answer.Reply.{Reply}
use Rattle.command_types.specs.declared.plan.LimitLine.{LimitLine}
use Rattle.command_types.specs.declared.plan.PlanRow.{PlanRow}
use Rattle.command_types.specs.declared.plan.PlanRow.TheVariants.{End, Cut, New}
use Rattle.command_types.specs.declared.proof.PairLine.{PairLine}
use Rattle.command_types.specs.declared.proof.ProofRow.{ProofRow}
use Rattle.command_types.specs.declared.proof.ProofRow.TheVariants.{Potential, Pair}
use Rattle.command_types.specs.declared.proof.Whose.{Whose}
use Rattle.command_types.specs.declared.proof.Whose.TheVariants.{Seller, Buyer, Hold, Now, Nobody}
use Rattle.command_types.specs.declared.trade.TradeRow.{TradeRow}
use Rattle.command_types.specs.Roster.{Rows}
use Rattle.command_types.specs.Books.{is_held}
use Rattle.command_types.specs.Text.{member_name, product_name, state_text, pair_text, numbers_text, head_text}

-- whether a party holds the trade
abbrev pub held_text : Bool → List ℕ
held_text true = codes "held"
held_text false = codes "-"

-- a trade: its number, its parties, its product, its amount, its day, its state, and whether a party holds it
abbrev pub trade_line : Rows → TradeRow → List ℕ
trade_line rows row =
    codes "trade " ++ decimal row.number ++ pair_text rows row.seller row.buyer ++ codes " " ++ product_name rows row.product
    ++ codes " " ++ decimal row.amount ++ codes " " ++ day_text row.day ++ codes " " ++ state_text row.state
    ++ codes " " ++ held_text (is_held row) ++ codes "\n"

-- the most that a pair may come to
abbrev pub upper_text : Option ℕ → List ℕ
upper_text None = codes "-"
upper_text (Some most) = decimal most

-- the limits of a pair: the least, the amount now, and the most
abbrev pub limit_text : Rows → LimitLine → List ℕ
limit_text rows line =
    codes "limit" ++ pair_text rows line.seller line.buyer ++ numbers_text line.lower line.now ++ codes " " ++ upper_text line.upper ++ codes "\n"

-- a step of a plan
abbrev pub plan_text : Rows → PlanRow → List ℕ
plan_text rows (End trade) = codes "end " ++ decimal trade ++ codes "\n"
plan_text rows (Cut trade from to) = codes "cut " ++ decimal trade ++ numbers_text from to ++ codes "\n"
plan_text rows (New product seller buyer amount day) =
    codes "new" ++ pair_text rows seller buyer ++ codes " " ++ product_name rows product ++ codes " " ++ decimal amount ++ codes "\n"

-- the word for whose a bound is
abbrev pub whose_text : Whose → List ℕ
whose_text Seller = codes "seller"
whose_text Buyer = codes "buyer"
whose_text Hold = codes "hold"
whose_text Now = codes "now"
whose_text Nobody = codes "none"

-- a pair of a proposal: the least and whose it is, the amount now, what the proposal makes of it, and the most and whose it is
abbrev pub pair_line_text : Rows → PairLine → List ℕ
pair_line_text rows line =
    codes "pair " ++ product_name rows line.product ++ pair_text rows line.seller line.buyer
    ++ codes " " ++ decimal line.lower ++ codes " " ++ whose_text line.lower_of ++ numbers_text line.now line.next
    ++ codes " " ++ upper_text line.upper ++ codes " " ++ whose_text line.upper_of ++ codes "\n"

-- what a member is told of a proposal: a potential, or a pair
abbrev pub proof_text : Rows → ProofRow → List ℕ
proof_text rows (Potential product member value) =
    codes "pot " ++ product_name rows product ++ codes " " ++ member_name rows member ++ codes " " ++ signed_decimal value ++ codes "\n"
proof_text rows (Pair line) = pair_line_text rows line

-- one line after another
abbrev pub lines_text : {T : Type 0} → (T → List ℕ) → List T → List ℕ
lines_text line [] = []
lines_text line (row ∷ rows) = line row ++ lines_text line rows

-- the detail lines of an answer
abbrev pub details_text : Rows → Answer → List ℕ
details_text rows (Statement trades) = lines_text (trade_line rows) trades
details_text rows (LimitRows limits) = lines_text (limit_text rows) limits
details_text rows (PlanRows cycle version plan) = lines_text (plan_text rows) plan
details_text rows (ProofRows head shown) = lines_text (proof_text rows) shown
details_text rows answer = []

-- the bytes of an entry, and a line feed
abbrev pub raw_text : Answer → List ℕ
raw_text (EntryBytes position bytes) = bytes ++ codes "\n"
raw_text answer = []

-- the text of a reply: its head line and its detail lines, or an entry's bytes
abbrev pub reply_text : Rows → Reply → List ℕ
reply_text rows reply = head_text rows reply.at reply.answer ++ details_text rows reply.answer ++ raw_text reply.answer
