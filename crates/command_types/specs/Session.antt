-- A session: lines in, the texts of their replies out.
use Rattle.std.specs.Prelude.{◌≡◌, ◌⊎◌, ℕ, ◌+◌, ◌≤◌, ℤ, pos, Bool, IsTrue, true, false, ◌&&◌, nat_lt, min, List, [], ◌∷◌, ◌++◌, length, sum_by, Option, Some, None, Result, Ok, Err, if◌then◌else◌}
use Rattle.std.specs.Str.{bytes_eq}
use Rattle.network_laws.specs.declared.rows.Row.{Row as NetworkRow}
use Rattle.network_laws.specs.Solutions.{SolutionData, ProblemData}
use Rattle.network_laws.specs.Solved.{AreSolved}
use Rattle.command_types.specs.declared.ask.Ask.{Ask}
use Rattle.command_types.specs.declared.ask.Entry.{Entry}
use Rattle.command_types.specs.declared.ask.What.{What}
use Rattle.command_types.specs.declared.ask.What.TheVariants.{Hello as AskHello, Trade as AskTrade, Affirm as AskAffirm, End as AskEnd, Hold as AskHold, Free as AskFree, Tol as AskTol, Nets as AskNets, Statement as AskStatement, Freeze as AskFreeze, Begin as AskBegin, Limits as AskLimits, Row as AskRow, Pot as AskPot, Post as AskPost, Fetch, Next as AskNext, Plan as AskPlan, Proof as AskProof, Accept as AskAccept, Decline as AskDecline, Cancel as AskCancel, Bye as AskBye, Unreadable}
use Rattle.command_types.specs.declared.line.Line.{Line}
use Rattle.command_types.specs.declared.line.Line.TheVariants.{Hello, Trade, Affirm, End, Hold, Free, Tol, Nets, Statement, Freeze, Begin, Limits, Row, Pot, Post, Propose, Next, Plan, Proof, Accept, Decline, Cancel, Bye}
use Rattle.command_types.specs.declared.answer.Answer.{Answer}
use Rattle.command_types.specs.declared.answer.Answer.TheVariants.{Hello as Greeted, Begun, Noted, Proposed, Nothing, Bye as Left, Problems, No}
use Rattle.command_types.specs.declared.answer.Reply.{Reply}
use Rattle.command_types.specs.declared.cycle.Mode.{Mode}
use Rattle.command_types.specs.declared.moment.TheConstants.{MOST_MOMENT}
use Rattle.command_types.specs.declared.refusal.Refusal.TheVariants.{Memory}
use Rattle.command_types.specs.declared.figures.Figures.{Figures}
use Rattle.command_types.specs.declared.roster.MemberRow.{MemberRow}
use Rattle.command_types.specs.declared.roster.ProductRow.{ProductRow}
use Rattle.command_types.specs.Roster.{Rows}
use Rattle.command_types.specs.History.{History, recorded, is_recorded, entries_of_seat}
use Rattle.command_types.specs.Told.{IsTold}
use Rattle.command_types.specs.Grammar.{line_within}
use Rattle.command_types.specs.Details.{reply_text}
use Rattle.units_core.specs.declared.limits.TheConstants.{MOST_GROSS}

-- a row of a draft: an amount for a product and a pair of members, by their names
pub record DraftRow : Type 0 where
  pub product : List ℕ
  pub seller : List ℕ
  pub buyer : List ℕ
  pub amount : ℕ

-- a potential of a draft, for a product and a member
pub record DraftPotential : Type 0 where
  pub product : List ℕ
  pub member : List ℕ
  pub value : ℤ

-- the rows and potentials that a session has noted for a posting
pub record Draft : Type 0 where
  pub rows : List DraftRow
  pub potentials : List DraftPotential

-- nothing is noted
abbrev pub empty_draft : Draft
empty_draft = record { rows = []; potentials = [] }

-- the two rows are of one product and pair
abbrev pub is_same_row : DraftRow → DraftRow → Bool
is_same_row a b = bytes_eq a.product b.product && bytes_eq a.seller b.seller && bytes_eq a.buyer b.buyer

-- a row replaces an earlier one of its product and pair
abbrev pub with_draft_row : DraftRow → List DraftRow → List DraftRow
with_draft_row new [] = new ∷ []
with_draft_row new (row ∷ rows) = if is_same_row new row then new ∷ rows else row ∷ with_draft_row new rows

-- the two potentials are of one product and member
abbrev pub is_same_potential : DraftPotential → DraftPotential → Bool
is_same_potential a b = bytes_eq a.product b.product && bytes_eq a.member b.member

-- a potential replaces an earlier one of its product and member
abbrev pub with_draft_potential : DraftPotential → List DraftPotential → List DraftPotential
with_draft_potential new [] = new ∷ []
with_draft_potential new (potential ∷ potentials) =
    if is_same_potential new potential then new ∷ potentials else potential ∷ with_draft_potential new potentials

-- how many rows and potentials a draft has
abbrev pub draft_size : Draft → ℕ
draft_size draft = length draft.rows + length draft.potentials

-- the amounts of a product in a draft
abbrev pub draft_sum : List ℕ → List DraftRow → ℕ
draft_sum product rows = sum_by (λ row. if bytes_eq row.product product then row.amount else 0) rows

-- a sum as a command carries it: one above the largest gross stands for all that are above it
abbrev pub capped : ℕ → ℕ
capped sum = if nat_lt MOST_GROSS sum then MOST_GROSS + 1 else sum

-- the draft with this row noted
abbrev pub noted_row : Draft → List ℕ → List ℕ → List ℕ → ℕ → Draft
noted_row draft product seller buyer amount =
    record draft { rows = with_draft_row (record { product = product; seller = seller; buyer = buyer; amount = amount }) draft.rows }

-- the draft with this potential noted
abbrev pub noted_potential : Draft → List ℕ → List ℕ → ℤ → Draft
noted_potential draft product member value =
    record draft { potentials = with_draft_potential (record { product = product; member = member; value = value }) draft.potentials }

-- what a draft has for a pair of names in a product
abbrev pub draft_amount : List ℕ → List ℕ → List ℕ → List DraftRow → ℕ
draft_amount product seller buyer rows =
    sum_by (λ row. if bytes_eq row.product product && bytes_eq row.seller seller && bytes_eq row.buyer buyer then row.amount else 0) rows

-- the row of a pair; an amount of 0 has none
abbrev pub positive_row : ℕ → ℕ → ℕ → List NetworkRow
positive_row i j amount = if nat_lt 0 amount then record { seller = i; buyer = j; amount = amount } ∷ [] else []

-- the rows of a seller, in the order of buyers, of which the first has this place
abbrev pub seller_rows : (List ℕ → ℕ) → ℕ → ℕ → List MemberRow → List NetworkRow
seller_rows amount_to i j [] = []
seller_rows amount_to i j (buyer ∷ buyers) = positive_row i j (amount_to buyer.name) ++ seller_rows amount_to i (1 + j) buyers

-- the rows of all sellers, in their order, of whom the first has this place
abbrev pub network_rows : (List ℕ → List ℕ → ℕ) → List MemberRow → ℕ → List MemberRow → List NetworkRow
network_rows amount_of members i [] = []
network_rows amount_of members i (seller ∷ sellers) = seller_rows (amount_of seller.name) i 0 members ++ network_rows amount_of members (1 + i) sellers

-- what a draft has for a member in a product, or 0
abbrev pub draft_potential : List ℕ → List ℕ → List DraftPotential → ℤ
draft_potential product member [] = pos 0
draft_potential product member (potential ∷ potentials) =
    if bytes_eq potential.product product && bytes_eq potential.member member then potential.value else draft_potential product member potentials

-- one potential for each member, in their order
abbrev pub potentials_for : (List ℕ → ℤ) → List MemberRow → List ℤ
potentials_for value_of [] = []
potentials_for value_of (member ∷ members) = value_of member.name ∷ potentials_for value_of members

-- the solution of a product that a draft has; what it has not is 0
abbrev pub draft_solution : List MemberRow → Draft → List ℕ → SolutionData
draft_solution members draft product = record {
  network = record {
    members = length members;
    rows = network_rows (λ seller buyer. draft_amount product seller buyer draft.rows) members 0 members;
  };
  potentials = potentials_for (λ member. draft_potential product member draft.potentials) members;
}

-- the draft's solution of each of these products, in their order
abbrev pub solutions_for : List MemberRow → Draft → List ProductRow → List SolutionData
solutions_for members draft [] = []
solutions_for members draft (product ∷ products) = draft_solution members draft product.name ∷ solutions_for members draft products

-- one solution for each product, from a draft
abbrev pub draft_solutions : Rows → Draft → List SolutionData
draft_solutions rows draft = solutions_for rows.members draft rows.products

-- what a session keeps between two lines: the party that has greeted, and its draft
pub record Speaker : Type 0 where
  pub party : Option (List ℕ)
  pub draft : Draft

-- nobody has greeted, and nothing is noted
abbrev pub nobody : Speaker
nobody = record { party = None; draft = empty_draft }

-- the command of a line of the grammar, of a PROPOSE its first; a ROW and a POT carry the draft's size as it would be, and a POST the draft's solutions
abbrev pub what_by : Rows → Draft → Line → What
what_by rows draft (Hello name key) = AskHello name key
what_by rows draft (Trade seller buyer product amount day) = AskTrade seller buyer product amount day
what_by rows draft (Affirm trade) = AskAffirm trade
what_by rows draft (End trade) = AskEnd trade
what_by rows draft (Hold trade) = AskHold trade
what_by rows draft (Free trade) = AskFree trade
what_by rows draft (Tol other product side floor ceiling) = AskTol other product side floor ceiling
what_by rows draft (Nets product) = AskNets product
what_by rows draft Statement = AskStatement
what_by rows draft (Freeze day) = AskFreeze day
what_by rows draft (Begin cycle mode) = AskBegin cycle mode
what_by rows draft (Limits product) = AskLimits product
what_by rows draft (Row product seller buyer amount) =
    AskRow product seller buyer amount (draft_size (noted_row draft product seller buyer amount)) (capped (draft_sum product (noted_row draft product seller buyer amount).rows))
what_by rows draft (Pot product member value) = AskPot product member value (draft_size (noted_potential draft product member value))
what_by rows draft (Post cycle version) = AskPost cycle version (draft_solutions rows draft)
what_by rows draft (Propose cycle mode) = AskBegin cycle mode
what_by rows draft (Next position) = AskNext position
what_by rows draft (Plan cycle) = AskPlan cycle
what_by rows draft (Proof cycle) = AskProof cycle
what_by rows draft (Accept cycle version) = AskAccept cycle version
what_by rows draft (Decline cycle version) = AskDecline cycle version
what_by rows draft (Cancel cycle) = AskCancel cycle
what_by rows draft Bye = AskBye

-- the command of what was read of a line; what can't be read is a command that is refused, with the byte at which it fails
abbrev pub what_or_fault : Rows → Draft → Result Line ℕ → What
what_or_fault rows draft (Ok line) = what_by rows draft line
what_or_fault rows draft (Err at) = Unreadable at

-- the draft after a line that was noted
abbrev pub draft_after : Draft → Result Line ℕ → Draft
draft_after draft (Ok (Row product seller buyer amount)) = noted_row draft product seller buyer amount
draft_after draft (Ok (Pot product member value)) = noted_potential draft product member value
draft_after draft line = draft

-- the draft after an accepted posting: a POST clears it
abbrev pub draft_posted : Draft → Result Line ℕ → Draft
draft_posted draft (Ok (Post cycle version)) = empty_draft
draft_posted draft line = draft

-- an accepted greeting sets the party and clears the draft; what is noted goes into the draft, and an accepted POST clears it
abbrev pub speaker_after : Speaker → Result Line ℕ → Answer → Speaker
speaker_after speaker line (Greeted name) = record { party = Some name; draft = empty_draft }
speaker_after speaker line (Noted size) = record speaker { draft = draft_after speaker.draft line }
speaker_after speaker line (Proposed cycle version before after) = record speaker { draft = draft_posted speaker.draft line }
speaker_after speaker line (Nothing cycle version) = record speaker { draft = draft_posted speaker.draft line }
speaker_after speaker line answer = speaker

-- the answer to an accepted BYE
abbrev pub is_bye : Answer → Bool
is_bye Left = true
is_bye answer = false

-- how a session stands between two lines: the position that it has seen, what it keeps, whether it knows that the desk is stopped, and whether it has said BYE
pub record Standing : Type 0 where
  pub position : ℕ
  pub speaker : Speaker
  pub stopped : Bool
  pub over : Bool

-- what a session knows of the history between two commands: the position that it has seen, and whether the desk is stopped
pub record Mark : Type 0 where
  pub position : ℕ
  pub stopped : Bool

-- what a session knows of the history, as it stands
abbrev pub mark_of : Standing → Mark
mark_of standing = record { position = standing.position; stopped = standing.stopped }

-- the moment of a command is one that the clock tells, or the last that a command can have where that is earlier
pub record IsTime (clock : ℕ → Bool) (moment : ℕ) : Type 0 where
  pub now : ℕ
  pub told : clock now ≡ true
  pub same : moment ≡ min now MOST_MOMENT

-- A command is replied to, at a position not below the one before, and its moment is of the clock. A stop may begin before the command or in it, and never ends.
pub record IsAsked (clock : ℕ → Bool) (figures : Figures) (h : History) (seat : ℕ) (from : Mark) (ask : Ask) (reply : Reply) (made : List Entry) (to : Mark) : Type 0 where
  pub time : IsTime clock ask.moment
  pub before : Bool
  pub told : IsTold figures before to.stopped h seat ask reply
  pub later : from.position + length made ≤ reply.at
  pub known : from.stopped ≡ true → before ≡ true
  pub stays : before ≡ true → to.stopped ≡ true
  pub runs : IsTrue (is_recorded ask.what reply.answer) → to.stopped ≡ false
  pub keeps : made ≡ recorded seat ask reply.answer
  pub position : to.position ≡ reply.at

-- the first command of a PROPOSE: it begins a version
abbrev pub ask_begin : Option (List ℕ) → ℕ → Mode → ℕ → Ask
ask_begin by cycle mode moment = record { by = by; what = AskBegin cycle mode; moment = moment }

-- the second: it asks for the problems of the version that was begun
abbrev pub ask_fetch : Option (List ℕ) → ℕ → ℕ → ℕ → Ask
ask_fetch by cycle version moment = record { by = by; what = Fetch cycle version; moment = moment }

-- the third: it posts the solutions
abbrev pub ask_post : Option (List ℕ) → ℕ → ℕ → List SolutionData → ℕ → Ask
ask_post by cycle version solutions moment = record { by = by; what = AskPost cycle version solutions; moment = moment }

-- nothing more is asked: this is the line's reply
abbrev pub IsLast : Reply → Mark → Reply → List Entry → Mark → Type 0
IsLast last mid reply made to = (reply ≡ last) × (made ≡ []) × (to ≡ mid)

-- Where the problems could not be solved for want of memory, that is the line's reply, at the position at which the version began.
abbrev pub IsUnsolved : ℕ → Mark → Reply → List Entry → Mark → Type 0
IsUnsolved begun_at mid reply made to = IsLast (record { at = begun_at; answer = No Memory }) mid reply made to

-- The solutions are posted, and the reply to that is the line's.
pub record IsPosted (clock : ℕ → Bool) (figures : Figures) (h : History) (seat : ℕ) (mid : Mark) (by : Option (List ℕ)) (cycle version : ℕ) (problems : List ProblemData) (reply : Reply) (made : List Entry) (to : Mark) : Type 0 where
  pub solutions : List SolutionData
  pub solved : AreSolved problems solutions
  pub moment : ℕ
  pub asked : IsAsked clock figures h seat mid (ask_post by cycle version solutions moment) reply made to

-- what follows on the reply that gave the problems, or none
abbrev pub GoesOnFetched : Answer → (ℕ → Bool) → Figures → History → ℕ → Mark → Option (List ℕ) → ℕ → ℕ → ℕ → Reply → Reply → List Entry → Mark → Type 0
GoesOnFetched (Problems problems) clock figures h seat mid by cycle version begun_at fetched reply made to =
    IsUnsolved begun_at mid reply made to ⊎ IsPosted clock figures h seat mid by cycle version problems reply made to
GoesOnFetched answer clock figures h seat mid by cycle version begun_at fetched reply made to = IsLast fetched mid reply made to

-- The problems of the version that was begun are asked for.
pub record IsFetched (clock : ℕ → Bool) (figures : Figures) (h : History) (seat : ℕ) (from : Mark) (by : Option (List ℕ)) (cycle version begun_at : ℕ) (reply : Reply) (made : List Entry) (to : Mark) : Type 0 where
  pub fetched : Reply
  pub mid : Mark
  pub first : List Entry
  pub others : List Entry
  pub moment : ℕ
  pub asked : IsAsked clock figures h seat from (ask_fetch by cycle version moment) fetched first mid
  pub goes_on : GoesOnFetched fetched.answer clock figures h seat mid by cycle version begun_at fetched reply others to
  pub order : made ≡ first ++ others

-- what follows on the reply that told the version's number, or none
abbrev pub GoesOnBegun : Answer → (ℕ → Bool) → Figures → History → ℕ → Mark → Option (List ℕ) → ℕ → Reply → Reply → List Entry → Mark → Type 0
GoesOnBegun (Begun number version) clock figures h seat mid by cycle begun reply made to = IsFetched clock figures h seat mid by cycle version begun.at reply made to
GoesOnBegun answer clock figures h seat mid by cycle begun reply made to = IsLast begun mid reply made to

-- A PROPOSE begins a version, asks for its problems and posts a solution of each. Its reply is the first of these that does not lead on, or the last.
pub record IsProposed (clock : ℕ → Bool) (figures : Figures) (h : History) (seat : ℕ) (from : Mark) (by : Option (List ℕ)) (cycle : ℕ) (mode : Mode) (reply : Reply) (made : List Entry) (to : Mark) : Type 0 where
  pub begun : Reply
  pub mid : Mark
  pub first : List Entry
  pub others : List Entry
  pub moment : ℕ
  pub asked : IsAsked clock figures h seat from (ask_begin by cycle mode moment) begun first mid
  pub goes_on : GoesOnBegun begun.answer clock figures h seat mid by cycle begun reply others to
  pub order : made ≡ first ++ others

-- what was read of a line is replied to: a PROPOSE by its commands, each other line by its one
abbrev pub IsReplied : (ℕ → Bool) → Figures → History → ℕ → Mark → Rows → Speaker → Result Line ℕ → Reply → List Entry → Mark → Type 0
IsReplied clock figures h seat from rows speaker (Ok (Propose cycle mode)) reply made to = IsProposed clock figures h seat from speaker.party cycle mode reply made to
IsReplied clock figures h seat from rows speaker read reply made to =
    (moment : ℕ) × IsAsked clock figures h seat from (record { by = speaker.party; what = what_or_fault rows speaker.draft read; moment = moment }) reply made to

-- A line is replied to. After an accepted BYE no line is.
pub record IsAnswered (clock : ℕ → Bool) (figures : Figures) (h : History) (seat : ℕ) (from : Standing) (line head : List ℕ) (first : List Entry) (to : Standing) : Type 0 where
  pub reply : Reply
  pub open_yet : from.over ≡ false
  pub replied : IsReplied clock figures h seat (mark_of from) h.base.state.roster from.speaker (line_within line) reply first (mark_of to)
  pub text : head ≡ reply_text h.base.state.roster reply
  pub speaker : to.speaker ≡ speaker_after from.speaker (line_within line) reply.answer
  pub over : to.over ≡ is_bye reply.answer

-- One line after another is answered, and their texts are the text. `made` is recorded on the way.
abbrev pub IsTalk : (ℕ → Bool) → Figures → History → ℕ → Standing → List (List ℕ) → List ℕ → List Entry → Standing → Type 0
IsTalk clock figures h seat from [] text made to = (text ≡ []) × (made ≡ []) × (to ≡ from)
IsTalk clock figures h seat from (line ∷ lines) text made to =
    (next : Standing) × (head : List ℕ) × (more : List ℕ) × (first : List Entry) × (others : List Entry)
    × IsAnswered clock figures h seat from line head first next
    × (text ≡ head ++ more) × (made ≡ first ++ others)
    × IsTalk clock figures h seat next lines more others to

-- The text is that of these lines' replies, and what is recorded of them is what the seat did after the first position.
pub record IsSession (clock : ℕ → Bool) (figures : Figures) (h : History) (seat : ℕ) (from : Standing) (lines : List (List ℕ)) (text : List ℕ) : Type 0 where
  pub made : List Entry
  pub to : Standing
  pub talk : IsTalk clock figures h seat from lines text made to
  pub own : made ≡ entries_of_seat h seat from.position
