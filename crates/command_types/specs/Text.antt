-- The head lines of replies.
use Rattle.std.specs.Prelude.{ℕ, List, [], ◌++◌, Option, Some, None, length, slice_get, codes, decimal}
use Rattle.std.specs.Fmt.{signed_decimal}
use Rattle.network_laws.specs.declared.clash.Clash.{Clash}
use Rattle.network_laws.specs.declared.clash.Clash.TheVariants.{Below, Above, Net, Open, Slack}
use Rattle.units_core.specs.Day.{day_text}
use Rattle.command_types.specs.declared.cycle.Mode.{Mode}
use Rattle.command_types.specs.declared.cycle.Mode.TheVariants.{Conservative, Hybrid, Free}
use Rattle.command_types.specs.declared.cycle.Phase.{Phase}
use Rattle.command_types.specs.declared.cycle.Phase.TheVariants.{None as NoPhase, Frozen as FrozenPhase, Solving, Proposed as ProposedPhase, Broken}
use Rattle.command_types.specs.declared.trade.TradeState.{TradeState}
use Rattle.command_types.specs.declared.trade.TradeState.TheVariants.{Alleged, Live, Ended as EndedState}
use Rattle.command_types.specs.declared.answer.Answer.{Answer}
use Rattle.command_types.specs.declared.answer.Answer.TheVariants.{Hello, Traded, Affirmed, Marked, Ended, Held, Freed, Tolerance, Own, Market, Statement, Frozen, Begun, LimitRows, Noted, Proposed, Nothing, PlanRows, ProofRows, Accepted, Executed, Declined, Cancelled, Bye, Problems, NoNext, EntryBytes, No}
use Rattle.command_types.specs.declared.proof.ProofHead.{ProofHead}
use Rattle.command_types.specs.declared.refusal.BadPost.{BadPost}
use Rattle.command_types.specs.declared.refusal.BadPost.TheVariants.{Shape, At}
use Rattle.command_types.specs.declared.refusal.Refusal.{Refusal}
use Rattle.command_types.specs.declared.refusal.Refusal.TheVariants.{BadLine, NotGreeted, BadKey, NotOperator, UnknownMember, UnknownProduct, OwnTrade, UnknownTrade, NotParty, AmountOver, Matured, FloorOverCeiling, WrongTradeState, TradeFrozen, CycleOpen, WrongCycle, CycleBroken, WrongPhase, WrongVersion, NotTouched, AlreadyAccepted, BadCertificate, GrossOver, TradesFull, DraftFull, Gone, Ahead, JournalFull, Stopped, Memory, DiskFault}
use Rattle.command_types.specs.declared.roster.MemberRow.{MemberRow}
use Rattle.command_types.specs.declared.roster.ProductRow.{ProductRow}
use Rattle.command_types.specs.Roster.{Rows}

-- a member's name; where there is no member, no text
abbrev pub member_row_name : Option MemberRow → List ℕ
member_row_name None = []
member_row_name (Some row) = row.name

-- the name of the member at a place
abbrev pub member_name : Rows → ℕ → List ℕ
member_name rows place = member_row_name (slice_get rows.members place)

-- a product's name; where there is no product, no text
abbrev pub product_row_name : Option ProductRow → List ℕ
product_row_name None = []
product_row_name (Some row) = row.name

-- the name of the product at a place
abbrev pub product_name : Rows → ℕ → List ℕ
product_name rows place = product_row_name (slice_get rows.products place)

-- the word for a trade's state
abbrev pub state_text : TradeState → List ℕ
state_text Alleged = codes "alleged"
state_text Live = codes "live"
state_text EndedState = codes "ended"

-- the word for a cycle's phase
abbrev pub phase_text : Phase → List ℕ
phase_text NoPhase = codes "none"
phase_text FrozenPhase = codes "frozen"
phase_text Solving = codes "solving"
phase_text ProposedPhase = codes "proposed"
phase_text Broken = codes "broken"

-- two names with a space in front of each
abbrev pub pair_text : Rows → ℕ → ℕ → List ℕ
pair_text rows seller buyer = codes " " ++ member_name rows seller ++ codes " " ++ member_name rows buyer

-- the word for what is wrong with a solution, and the pair or the member where it is
abbrev pub clash_text : Rows → Clash → List ℕ
clash_text rows (Below seller buyer) = codes "below" ++ pair_text rows seller buyer
clash_text rows (Above seller buyer) = codes "above" ++ pair_text rows seller buyer
clash_text rows (Net member) = codes "net " ++ member_name rows member
clash_text rows (Open seller buyer) = codes "open" ++ pair_text rows seller buyer
clash_text rows (Slack seller buyer) = codes "slack" ++ pair_text rows seller buyer

-- what is wrong with a posting: its shape, or the first clash of a product
abbrev pub post_text : Rows → BadPost → List ℕ
post_text rows Shape = codes "shape"
post_text rows (At product clash) = product_name rows product ++ codes " " ++ clash_text rows clash

-- a refusal's number, its name and its value
abbrev pub refusal_text : Rows → Refusal → List ℕ
refusal_text rows (BadLine at) = codes "3 bad-line " ++ decimal at
refusal_text rows NotGreeted = codes "1 not-greeted"
refusal_text rows BadKey = codes "2 bad-key"
refusal_text rows NotOperator = codes "14 not-operator"
refusal_text rows UnknownMember = codes "4 unknown-member"
refusal_text rows UnknownProduct = codes "5 unknown-product"
refusal_text rows OwnTrade = codes "6 own-trade"
refusal_text rows UnknownTrade = codes "11 unknown-trade"
refusal_text rows NotParty = codes "7 not-party"
refusal_text rows AmountOver = codes "8 amount-over"
refusal_text rows (Matured maturity) = codes "22 matured " ++ day_text maturity
refusal_text rows FloorOverCeiling = codes "23 floor-over-ceiling"
refusal_text rows (WrongTradeState state) = codes "12 wrong-trade-state " ++ state_text state
refusal_text rows (TradeFrozen cycle) = codes "13 trade-frozen " ++ decimal cycle
refusal_text rows (CycleOpen cycle) = codes "15 cycle-open " ++ decimal cycle
refusal_text rows (WrongCycle cycle) = codes "16 wrong-cycle " ++ decimal cycle
refusal_text rows (CycleBroken trade) = codes "21 cycle-broken " ++ decimal trade
refusal_text rows (WrongPhase phase) = codes "17 wrong-phase " ++ phase_text phase
refusal_text rows (WrongVersion version) = codes "18 wrong-version " ++ decimal version
refusal_text rows NotTouched = codes "19 not-touched"
refusal_text rows AlreadyAccepted = codes "20 already-accepted"
refusal_text rows (BadCertificate post) = codes "24 bad-certificate " ++ post_text rows post
refusal_text rows GrossOver = codes "9 gross-over"
refusal_text rows TradesFull = codes "10 trades-full"
refusal_text rows DraftFull = codes "29 draft-full"
refusal_text rows (Gone from) = codes "31 gone " ++ decimal from
refusal_text rows (Ahead end) = codes "32 ahead " ++ decimal end
refusal_text rows (JournalFull size) = codes "25 journal-full " ++ decimal size
refusal_text rows (Stopped at) = codes "26 stopped " ++ decimal at
refusal_text rows Memory = codes "28 memory"
refusal_text rows DiskFault = codes "27 disk-fault"

-- the word for a mode
abbrev pub mode_text : Mode → List ℕ
mode_text Conservative = codes "conservative"
mode_text Hybrid = codes "hybrid"
mode_text Free = codes "free"

-- two numbers with a space in front of each
abbrev pub numbers_text : ℕ → ℕ → List ℕ
numbers_text a b = codes " " ++ decimal a ++ codes " " ++ decimal b

-- which proposal a member is told of: cycle, version, the freeze's day, mode and where the version began; and in how many lines
abbrev pub proof_head_text : ProofHead → ℕ → List ℕ
proof_head_text head count =
    codes " proof" ++ numbers_text head.cycle head.version ++ codes " " ++ day_text head.day ++ codes " " ++ mode_text head.mode ++ numbers_text head.begun count

-- what an accepted command is told behind the position
abbrev pub answer_text : Rows → Answer → List ℕ
answer_text rows (Hello name) = codes " hello " ++ name
answer_text rows (Traded trade) = codes " trade " ++ decimal trade
answer_text rows (Affirmed trade) = codes " live " ++ decimal trade
answer_text rows (Marked trade) = codes " ending " ++ decimal trade
answer_text rows (Ended trade) = codes " ended " ++ decimal trade
answer_text rows (Held trade) = codes " held " ++ decimal trade
answer_text rows (Freed trade) = codes " freed " ++ decimal trade
answer_text rows Tolerance = codes " tol"
answer_text rows (Own out into net) = codes " nets" ++ numbers_text out into ++ codes " " ++ signed_decimal net
answer_text rows (Market gross floor_m excess bilateral) = codes " market" ++ numbers_text gross floor_m ++ numbers_text excess bilateral
answer_text rows (Statement trades) = codes " statement " ++ decimal (length trades)
answer_text rows (Frozen cycle trades) = codes " frozen" ++ numbers_text cycle trades
answer_text rows (Begun cycle version) = codes " begun" ++ numbers_text cycle version
answer_text rows (LimitRows limits) = codes " limits " ++ decimal (length limits)
answer_text rows (Noted size) = codes " noted " ++ decimal size
answer_text rows (Proposed cycle version before after) = codes " proposed" ++ numbers_text cycle version ++ numbers_text before after
answer_text rows (Nothing cycle version) = codes " nothing" ++ numbers_text cycle version
answer_text rows (PlanRows cycle version plan) = codes " plan" ++ numbers_text cycle version ++ codes " " ++ decimal (length plan)
answer_text rows (ProofRows head shown) = proof_head_text head (length shown)
answer_text rows (Accepted cycle version left) = codes " accepted" ++ numbers_text cycle version ++ codes " " ++ decimal left
answer_text rows (Executed cycle version ended cut made) = codes " executed" ++ numbers_text cycle version ++ numbers_text ended cut ++ codes " " ++ decimal made
answer_text rows (Declined cycle version) = codes " declined" ++ numbers_text cycle version
answer_text rows (Cancelled cycle) = codes " cancelled " ++ decimal cycle
answer_text rows Bye = codes " bye"
answer_text rows (Problems problems) = []
answer_text rows NoNext = codes " none"
answer_text rows (EntryBytes position bytes) = codes " entry" ++ numbers_text position (length bytes)
answer_text rows (No refusal) = []

-- the head line of a reply, with its line feed; the roster has the names of places
abbrev pub head_text : Rows → ℕ → Answer → List ℕ
head_text rows at (No refusal) = codes "no " ++ decimal at ++ codes " " ++ refusal_text rows refusal ++ codes "\n"
head_text rows at answer = codes "ok " ++ decimal at ++ answer_text rows answer ++ codes "\n"
