-- An answer that tells of a stop comes from a desk that is stopped.
use Rattle.std.proofs.Common.{◌≡◌, ℕ, ◌+◌, nat_lt, Bool, true, false, ◌&&◌, ◌⊎◌, ⊎_elim, List, [], ◌∷◌, sym, refl, ap, ◌∙◌}
use Rattle.std.specs.Prelude.{Option, Some, None, IsTrue, cond, unwrap_or, if◌then◌else◌}
use Rattle.command_types.specs.declared.ask.Ask.{Ask}
use Rattle.command_types.specs.declared.ask.What.{What}
use Rattle.command_types.specs.declared.ask.What.TheVariants.{Hello, Trade, Affirm, End, Hold, Free, Tol, Nets, Statement, Freeze, Begin, Limits, Row, Pot, Post, Fetch, Next, Plan, Proof, Accept, Decline, Cancel, Bye, Unreadable}
use Rattle.command_types.specs.declared.ask.Entry.{Entry}
use Rattle.command_types.specs.declared.answer.Answer.{Answer}
use Rattle.command_types.specs.declared.answer.Answer.TheVariants.{Ended, Marked, NoNext, ProofRows, No}
use Rattle.command_types.specs.declared.refusal.Refusal.{Refusal}
use Rattle.command_types.specs.declared.refusal.Refusal.TheVariants.{JournalFull, Gone, Ahead, Stopped, Memory, DiskFault}
use Rattle.command_types.specs.declared.answer.Reply.{Reply}
use Rattle.network_laws.specs.Solutions.{SolutionData}
use Rattle.command_types.specs.declared.figures.Start.{Start}
use Rattle.command_types.specs.declared.cycle.Mode.{Mode}
use Rattle.command_types.specs.declared.figures.State.{State}
use Rattle.command_types.specs.declared.figures.Cycle.{Cycle}
use Rattle.command_types.specs.declared.refusal.BadPost.{BadPost}
use Rattle.command_types.specs.declared.figures.Figures.{Figures}
use Rattle.command_types.specs.declared.figures.JournalFigures.{JournalFigures}
use Rattle.command_types.specs.declared.roster.ProductRow.{ProductRow}
use Rattle.command_types.specs.declared.trade.TradeRow.{TradeRow}
use Rattle.units_core.specs.Day.{DayParts}
use Rattle.command_types.specs.Roster.{is_operator}
use Rattle.command_types.specs.CycleRefusals.{if_bad_post}
use Rattle.command_types.specs.CycleSteps.{proposed_answer, proof_on, vote_answer}
use Rattle.command_types.specs.Machine.{first_of, refusals, command_refusals, maturity_refusal, affirm_refusals, end_refusals, hold_refusals, free_refusals, accepted, end_answer, refused_or, answer_to, changes}
use Rattle.command_types.specs.History.{History, is_recorded, replayed_from}
use Rattle.command_types.specs.Offers.{first_behind, with_entries, answer_at}
use Rattle.command_types.specs.Sizes.{journal_limit, frame_size}
use Rattle.command_types.specs.Told.{IsTold, IsRecorded, IsNotRecorded, IsHouse, IsMemory, journal_size, tells_stop}

-- an answer of the desk, not of the machine: its own refusals, and want of memory
abbrev pub is_desks : Answer → Bool
is_desks (No (JournalFull size)) = true
is_desks (No (Stopped at)) = true
is_desks (No Memory) = true
is_desks (No DiskFault) = true
is_desks answer = false

-- none of these refusals is the desk's
abbrev Plain : List (Bool × Refusal) → Type 0
Plain [] = Unit {0}
Plain (row ∷ rows) = (is_desks (No row.1) ≡ false) × Plain rows

chosen : (answer : Answer) (b : Bool) (refusal : Refusal) (rest : Option Refusal) → is_desks (No refusal) ≡ false → is_desks (refused_or answer rest) ≡ false → is_desks (refused_or answer (if b then Some refusal else rest)) ≡ false
chosen answer true refusal rest p q = p
chosen answer false refusal rest p q = q

first_plain : (answer : Answer) (rows : List (Bool × Refusal)) → is_desks answer ≡ false → Plain rows → is_desks (refused_or answer (first_of rows)) ≡ false
first_plain answer [] p q = p
first_plain answer (row ∷ rows) p q = chosen answer row.0 row.1 (first_of rows) q.0 (first_plain answer rows p q.1)

maturity_plain : (row : Option ProductRow) (day : DayParts) → is_desks (No (maturity_refusal row day).1) ≡ false
maturity_plain None day = refl
maturity_plain (Some row) day = refl

affirm_plain : (s : State) (by : List ℕ) (row : Option TradeRow) → Plain (affirm_refusals s by row)
affirm_plain s by None = (refl, tt)
affirm_plain s by (Some row) = (refl, (refl, tt))

end_plain : (s : State) (by : List ℕ) (row : Option TradeRow) → Plain (end_refusals s by row)
end_plain s by None = (refl, tt)
end_plain s by (Some row) = (refl, (refl, tt))

hold_plain : (s : State) (by : List ℕ) (row : Option TradeRow) → Plain (hold_refusals s by row)
hold_plain s by None = (refl, tt)
hold_plain s by (Some row) = (refl, (refl, (refl, tt)))

free_plain : (s : State) (by : List ℕ) (row : Option TradeRow) → Plain (free_refusals s by row)
free_plain s by None = (refl, tt)
free_plain s by (Some row) = (refl, (refl, (refl, tt)))

post_plain : (post : Option BadPost) → is_desks (No (if_bad_post post).1) ≡ false
post_plain None = refl
post_plain (Some post) = refl

command_plain : (s : State) (by : List ℕ) (what : What) → Plain (command_refusals s by what)
command_plain s by (Hello name key) = tt
command_plain s by (Trade seller buyer product amount day) = (refl, (refl, (refl, (refl, (refl, (maturity_plain _ day, (refl, (refl, tt))))))))
command_plain s by (Affirm trade) = affirm_plain s by _
command_plain s by (End trade) = end_plain s by _
command_plain s by (Hold trade) = hold_plain s by _
command_plain s by (Free trade) = free_plain s by _
command_plain s by (Tol other product side floor ceiling) = (refl, (refl, (refl, (refl, (refl, tt)))))
command_plain s by (Nets product) = (refl, tt)
command_plain s by Statement = (refl, tt)
command_plain s by (Freeze day) = (refl, (refl, tt))
command_plain s by (Begin cycle mode) = (refl, (refl, (refl, (refl, tt))))
command_plain s by (Limits product) = (refl, (refl, (refl, (refl, tt))))
command_plain s by (Row product seller buyer amount size sum) = (refl, (refl, (refl, (refl, (refl, (refl, tt))))))
command_plain s by (Pot product member value size) = (refl, (refl, (refl, (refl, tt))))
command_plain s by (Post cycle version solutions) = (refl, (refl, (refl, (refl, (refl, (post_plain _, tt))))))
command_plain s by (Fetch cycle version) = (refl, (refl, (refl, (refl, (refl, tt)))))
command_plain s by (Next position) = (refl, tt)
command_plain s by (Plan cycle) = (refl, (refl, (refl, tt)))
command_plain s by (Proof cycle) = (refl, (refl, (refl, (refl, tt))))
command_plain s by (Accept cycle version) = (refl, (refl, (refl, (refl, (refl, (refl, tt))))))
command_plain s by (Decline cycle version) = (refl, (refl, (refl, (refl, (refl, tt)))))
command_plain s by (Cancel cycle) = (refl, (refl, (refl, tt)))
command_plain s by Bye = tt
command_plain s by (Unreadable at) = tt

refusals_plain : (s : State) (by : Option (List ℕ)) (what : What) → Plain (refusals s by what)
refusals_plain s by (Hello name key) = (refl, tt)
refusals_plain s by (Trade seller buyer product amount day) = (refl, command_plain s (unwrap_or by []) (Trade seller buyer product amount day))
refusals_plain s by (Affirm trade) = (refl, command_plain s (unwrap_or by []) (Affirm trade))
refusals_plain s by (End trade) = (refl, command_plain s (unwrap_or by []) (End trade))
refusals_plain s by (Hold trade) = (refl, command_plain s (unwrap_or by []) (Hold trade))
refusals_plain s by (Free trade) = (refl, command_plain s (unwrap_or by []) (Free trade))
refusals_plain s by (Tol other product side floor ceiling) = (refl, command_plain s (unwrap_or by []) (Tol other product side floor ceiling))
refusals_plain s by (Nets product) = (refl, command_plain s (unwrap_or by []) (Nets product))
refusals_plain s by Statement = (refl, command_plain s (unwrap_or by []) Statement)
refusals_plain s by (Freeze day) = (refl, command_plain s (unwrap_or by []) (Freeze day))
refusals_plain s by (Begin cycle mode) = (refl, command_plain s (unwrap_or by []) (Begin cycle mode))
refusals_plain s by (Limits product) = (refl, command_plain s (unwrap_or by []) (Limits product))
refusals_plain s by (Row product seller buyer amount size sum) = (refl, command_plain s (unwrap_or by []) (Row product seller buyer amount size sum))
refusals_plain s by (Pot product member value size) = (refl, command_plain s (unwrap_or by []) (Pot product member value size))
refusals_plain s by (Post cycle version solutions) = (refl, command_plain s (unwrap_or by []) (Post cycle version solutions))
refusals_plain s by (Fetch cycle version) = (refl, command_plain s (unwrap_or by []) (Fetch cycle version))
refusals_plain s by (Next position) = (refl, command_plain s (unwrap_or by []) (Next position))
refusals_plain s by (Plan cycle) = (refl, command_plain s (unwrap_or by []) (Plan cycle))
refusals_plain s by (Proof cycle) = (refl, command_plain s (unwrap_or by []) (Proof cycle))
refusals_plain s by (Accept cycle version) = (refl, command_plain s (unwrap_or by []) (Accept cycle version))
refusals_plain s by (Decline cycle version) = (refl, command_plain s (unwrap_or by []) (Decline cycle version))
refusals_plain s by (Cancel cycle) = (refl, command_plain s (unwrap_or by []) (Cancel cycle))
refusals_plain s by Bye = tt
refusals_plain s by (Unreadable at) = (refl, tt)

ending_plain : (ends : Bool) (trade : ℕ) → is_desks (cond {A = Answer} ends (Ended trade) (Marked trade)) ≡ false
ending_plain true trade = refl
ending_plain false trade = refl

end_answer_plain : (trade : ℕ) (row : Option TradeRow) → is_desks (end_answer trade row) ≡ false
end_answer_plain trade None = refl
end_answer_plain trade (Some row) = ending_plain _ trade

nets_plain : (operator : Bool) (market own : Answer) → is_desks market ≡ false → is_desks own ≡ false → is_desks (cond {A = Answer} operator market own) ≡ false
nets_plain true market own m o = m
nets_plain false market own m o = o

proposed_plain : (s : State) (solutions : List SolutionData) (touched : List ℕ) → is_desks (proposed_answer s solutions touched) ≡ false
proposed_plain s solutions [] = refl
proposed_plain s solutions (member ∷ members) = refl

vote_plain : (cycle : Cycle) (left : List ℕ) → is_desks (vote_answer cycle left) ≡ false
vote_plain cycle [] = refl
vote_plain cycle (member ∷ members) = refl

proof_plain : (day : Option DayParts) (mode : Option Mode) (s : State) (member : ℕ) → is_desks (proof_on day mode s member) ≡ false
proof_plain (Some day) (Some mode) s member = refl
proof_plain day mode s member = refl

accepted_plain : (s : State) (by : Option (List ℕ)) (what : What) → is_desks (accepted s by what) ≡ false
accepted_plain s by (Hello name key) = refl
accepted_plain s by (Trade seller buyer product amount day) = refl
accepted_plain s by (Affirm trade) = refl
accepted_plain s by (End trade) = end_answer_plain trade _
accepted_plain s by (Hold trade) = refl
accepted_plain s by (Free trade) = refl
accepted_plain s by (Tol other product side floor ceiling) = refl
accepted_plain s by (Nets product) = nets_plain (is_operator s.roster (unwrap_or by [])) _ _ refl refl
accepted_plain s by Statement = refl
accepted_plain s by (Freeze day) = refl
accepted_plain s by (Begin cycle mode) = refl
accepted_plain s by (Limits product) = refl
accepted_plain s by (Row product seller buyer amount size sum) = refl
accepted_plain s by (Pot product member value size) = refl
accepted_plain s by (Post cycle version solutions) = proposed_plain s solutions _
accepted_plain s by (Fetch cycle version) = refl
accepted_plain s by (Next position) = refl
accepted_plain s by (Plan cycle) = refl
accepted_plain s by (Proof cycle) = proof_plain s.cycle.day s.cycle.mode s _
accepted_plain s by (Accept cycle version) = vote_plain s.cycle _
accepted_plain s by (Decline cycle version) = refl
accepted_plain s by (Cancel cycle) = refl
accepted_plain s by Bye = refl
accepted_plain s by (Unreadable at) = refl

-- the machine never answers as the desk alone does
pub machine_plain : (s : State) (ask : Ask) → is_desks (answer_to s ask) ≡ false
machine_plain s ask = first_plain (accepted s ask.by ask.what) (refusals s ask.by ask.what) (accepted_plain s ask.by ask.what) (refusals_plain s ask.by ask.what)

behind_plain : (position : ℕ) (entries : List Entry) → is_desks (first_behind position entries) ≡ false
behind_plain position [] = refl
behind_plain position (entry ∷ entries) = refl

offered_plain : (gone ahead : Bool) (base end position : ℕ) (entries : List Entry)
    → is_desks (cond {A = Answer} gone (No (Gone base)) (cond {A = Answer} ahead (No (Ahead end)) (first_behind position entries))) ≡ false
offered_plain true ahead base end position entries = refl
offered_plain false true base end position entries = refl
offered_plain false false base end position entries = behind_plain position entries

with_plain : (base : Start) (entries : List Entry) (what : What) (answer : Answer) → is_desks answer ≡ false → is_desks (with_entries base entries what answer) ≡ false
with_plain base entries (Next position) NoNext plain = offered_plain _ _ _ _ position _
with_plain base entries (Proof cycle) (ProofRows head rows) plain = refl
with_plain base entries what answer plain = plain

-- neither is an answer from the entries
pub answer_plain : (base : Start) (entries : List Entry) (ask : Ask) → is_desks (answer_at base entries ask) ≡ false
answer_plain base entries ask = with_plain base entries ask.what (answer_to (replayed_from base.state entries) ask) (machine_plain (replayed_from base.state entries) ask)

-- what is recorded was not refused
refused : (b : Bool) → IsTrue (b && false) → ⊥
refused true e = absurd (cc)
refused false e = absurd (cc)

pub recorded_plain : (what : What) (answer : Answer) → IsTrue (is_recorded what answer) → is_desks answer ≡ false
recorded_plain what (No refusal) r = absurd (refused (changes what) r)
recorded_plain what answer r = refl

-- an answer that tells of a stop is the desk's
stop_desks : (answer : Answer) → is_desks answer ≡ false → tells_stop answer ≡ false
stop_desks (No (Stopped at)) e = absurd (cc)
stop_desks (No DiskFault) e = absurd (cc)
stop_desks answer e = refl

clash : (P : Type 0) (b : Bool) → b ≡ false → b ≡ true → P
clash P b p q = absurd (cc)

-- of a desk with a journal the one is the answer of a desk that was stopped before, the other of one that stops
journal_stop : (full before after : Bool) (size n : ℕ) (refusal : Refusal) → first_of ((full, JournalFull size) ∷ (before, Stopped n) ∷ (after, DiskFault) ∷ []) ≡ Some refusal
    → (before ≡ true → after ≡ true) → tells_stop (No refusal) ≡ true → after ≡ true
journal_stop true before after size n refusal e stays stop = absurd (cc)
journal_stop false true after size n refusal e stays stop = stays refl
journal_stop false false true size n refusal e stays stop = refl
journal_stop false false false size n refusal e stays stop = absurd (cc)

house_stop : (journal : Option JournalFigures) (figures : Figures) (before after : Bool) (s : State) (front : List Entry) (n : ℕ) (ask : Ask) (answer : Answer) → IsHouse journal figures before after s front n ask answer
    → (before ≡ true → after ≡ true) → tells_stop answer ≡ true → after ≡ true
house_stop None figures before after s front n ask answer h stays stop = absurd h
house_stop (Some journal) figures before after s front n ask answer h stays stop =
    journal_stop (nat_lt journal_limit (journal_size figures journal front + frame_size ask)) before after (journal_size figures journal front) n h.refusal h.first stays (sym (ap tells_stop h.same) ∙ stop)

pub told_stop : (figures : Figures) (before after : Bool) (h : History) (seat : ℕ) (ask : Ask) (reply : Reply) → IsTold figures before after h seat ask reply → (before ≡ true → after ≡ true) → tells_stop reply.answer ≡ true → after ≡ true
told_stop figures before after h seat ask reply told stays stop = let s : State = h.base.state in let a : Answer = reply.answer in ⊎_elim
    (λ (x : IsRecorded s told.front seat ask a). clash (after ≡ true) (tells_stop a) (stop_desks a (recorded_plain ask.what a x.change)) stop)
    (λ (x : IsNotRecorded h.base told.front ask a ⊎ IsHouse figures.journal figures before after s told.front reply.at ask a ⊎ IsMemory figures ask.what a). ⊎_elim
    (λ (y : IsNotRecorded h.base told.front ask a). clash (after ≡ true) (tells_stop a) (stop_desks a (ap is_desks y.same ∙ answer_plain h.base told.front ask)) stop)
    (λ (y : IsHouse figures.journal figures before after s told.front reply.at ask a ⊎ IsMemory figures ask.what a). ⊎_elim
    (λ (z : IsHouse figures.journal figures before after s told.front reply.at ask a). house_stop figures.journal figures before after s told.front reply.at ask a z stays stop)
    (λ (z : IsMemory figures ask.what a). clash (after ≡ true) (tells_stop a) (ap tells_stop z.same) stop)
    y) x) told.one
