-- The reply to a line that may stand in a run changes nothing of who speaks, and is not that to a BYE.
use Rattle.std.proofs.Common.{◌≡◌, ◌⊎◌, ℕ, Bool, true, false, ◌||◌, is_some, List, [], ◌∷◌, Option, Some, None, Result, Ok, Err, refl, ap, ◌∙◌, inl, inr, cond, unwrap_or}
use Rattle.command_types.specs.declared.line.Line.{Line}
use Rattle.command_types.specs.declared.line.Line.TheVariants.{Trade, Affirm, End, Hold, Free, Tol, Nets, Statement, Freeze, Limits, Propose, Plan, Accept, Decline, Cancel}
use Rattle.command_types.specs.declared.ask.Ask.{Ask}
use Rattle.command_types.specs.declared.ask.Entry.{Entry}
use Rattle.command_types.specs.declared.answer.Answer.{Answer}
use Rattle.command_types.specs.declared.answer.Answer.TheVariants.{Hello as Greeted, Marked, Ended, Noted, Proposed, Nothing, Bye as Left}
use Rattle.command_types.specs.declared.answer.Reply.{Reply}
use Rattle.command_types.specs.declared.refusal.Refusal.{Refusal}
use Rattle.command_types.specs.declared.figures.Start.{Start}
use Rattle.command_types.specs.declared.figures.Cycle.{Cycle}
use Rattle.command_types.specs.declared.figures.State.{State}
use Rattle.command_types.specs.declared.figures.Figures.{Figures}
use Rattle.command_types.specs.declared.figures.JournalFigures.{JournalFigures}
use Rattle.command_types.specs.declared.trade.TradeRow.{TradeRow}
use Rattle.command_types.specs.Roster.{Rows, is_operator}
use Rattle.command_types.specs.Offers.{with_entries}
use Rattle.command_types.specs.CycleSteps.{vote_answer, left_after, market_in}
use Rattle.command_types.specs.Machine.{refusals, refused_or, first_of, answer_to, accepted, end_answer, position_of, member_of, product_of}
use Rattle.command_types.specs.Trades.{trade_numbered, is_alleged}
use Rattle.command_types.specs.History.{History, replayed_from}
use Rattle.command_types.specs.Told.{IsTold, IsRecorded, IsNotRecorded, IsHouse, IsMemory}
use Rattle.command_types.specs.Session.{Speaker, Draft, is_bye, speaker_after, what_or_fault}
use Rattle.session.specs.Serving.{ask_read}
use Rattle.session.specs.Asks.{proposal_in}
use Rattle.session.specs.Runs.{may_run}

-- neither a greeting nor a note, no posting that was taken, and no goodbye
abbrev pub is_plain : Answer → Bool
is_plain (Greeted name) = false
is_plain (Noted size) = false
is_plain (Proposed cycle version before after) = false
is_plain (Nothing cycle version) = false
is_plain Left = false
is_plain answer = true

plain_refused : (answer : Answer) (refusal : Option Refusal) → is_plain answer ≡ true → is_plain (refused_or answer refusal) ≡ true
plain_refused answer None plain = plain
plain_refused answer (Some refusal) plain = refl

plain_end : (trade : ℕ) (row : Option TradeRow) → is_plain (end_answer trade row) ≡ true
plain_end trade None = refl
plain_end trade (Some row) = by (is_alleged row.state || is_some row.mark)
  where
    by : (t : Bool) → is_plain (cond {A = Answer} t (Ended trade) (Marked trade)) ≡ true
    by true = refl
    by false = refl

plain_nets : (t : Bool) (market own : Answer) → is_plain market ≡ true → is_plain own ≡ true → is_plain (cond {A = Answer} t market own) ≡ true
plain_nets true market own a b = a
plain_nets false market own a b = b

plain_vote : (cycle : Cycle) (voters : List ℕ) → is_plain (vote_answer cycle voters) ≡ true
plain_vote cycle [] = refl
plain_vote cycle (voter ∷ voters) = refl

plain_accepted : (s : State) (by : Option (List ℕ)) (rows : Rows) (draft : Draft) (read : Result Line ℕ) → may_run read ≡ true → is_plain (accepted s by (what_or_fault rows draft read)) ≡ true
plain_accepted s by rows draft (Ok (Trade seller buyer product amount day)) e = refl
plain_accepted s by rows draft (Ok (Affirm trade)) e = refl
plain_accepted s by rows draft (Ok (End trade)) e = plain_end trade (trade_numbered s.trades trade)
plain_accepted s by rows draft (Ok (Hold trade)) e = refl
plain_accepted s by rows draft (Ok (Free trade)) e = refl
plain_accepted s by rows draft (Ok (Tol other product side floor ceiling)) e = refl
plain_accepted s by rows draft (Ok (Nets product)) e = plain_nets (is_operator s.roster (unwrap_or by [])) (market_in s (product_of s product)) (position_of (product_of s product) (member_of s (unwrap_or by [])) s.trades) refl refl
plain_accepted s by rows draft (Ok Statement) e = refl
plain_accepted s by rows draft (Ok (Freeze day)) e = refl
plain_accepted s by rows draft (Ok (Limits product)) e = refl
plain_accepted s by rows draft (Ok (Plan cycle)) e = refl
plain_accepted s by rows draft (Ok (Accept cycle version)) e = plain_vote s.cycle (left_after s (member_of s (unwrap_or by [])))
plain_accepted s by rows draft (Ok (Decline cycle version)) e = refl
plain_accepted s by rows draft (Ok (Cancel cycle)) e = refl
plain_accepted s by rows draft (Err at) e = refl
plain_accepted s by rows draft read e = absurd (let bad = e in cc)

-- a desk puts nothing of its own into these answers
same_answer : (base : Start) (entries : List Entry) (rows : Rows) (draft : Draft) (read : Result Line ℕ) (answer : Answer) → may_run read ≡ true → with_entries base entries (what_or_fault rows draft read) answer ≡ answer
same_answer base entries rows draft (Ok (Trade seller buyer product amount day)) answer e = refl
same_answer base entries rows draft (Ok (Affirm trade)) answer e = refl
same_answer base entries rows draft (Ok (End trade)) answer e = refl
same_answer base entries rows draft (Ok (Hold trade)) answer e = refl
same_answer base entries rows draft (Ok (Free trade)) answer e = refl
same_answer base entries rows draft (Ok (Tol other product side floor ceiling)) answer e = refl
same_answer base entries rows draft (Ok (Nets product)) answer e = refl
same_answer base entries rows draft (Ok Statement) answer e = refl
same_answer base entries rows draft (Ok (Freeze day)) answer e = refl
same_answer base entries rows draft (Ok (Limits product)) answer e = refl
same_answer base entries rows draft (Ok (Plan cycle)) answer e = refl
same_answer base entries rows draft (Ok (Accept cycle version)) answer e = refl
same_answer base entries rows draft (Ok (Decline cycle version)) answer e = refl
same_answer base entries rows draft (Ok (Cancel cycle)) answer e = refl
same_answer base entries rows draft (Err at) answer e = refl
same_answer base entries rows draft read answer e = absurd (let bad = e in cc)

plain_machine : (s : State) (rows : Rows) (speaker : Speaker) (read : Result Line ℕ) (moment : ℕ) → may_run read ≡ true → is_plain (answer_to s (ask_read rows speaker read moment)) ≡ true
plain_machine s rows speaker read moment e =
    let what = what_or_fault rows speaker.draft read in
    plain_refused (accepted s speaker.party what) (first_of (refusals s speaker.party what)) (plain_accepted s speaker.party rows speaker.draft read e)

plain_house : (journal : Option JournalFigures) (figures : Figures) (before after : Bool) (s : State) (front : List Entry) (n : ℕ) (ask : Ask) (answer : Answer) →
    IsHouse journal figures before after s front n ask answer → is_plain answer ≡ true
plain_house None figures before after s front n ask answer h = absurd h
plain_house (Some journal) figures before after s front n ask answer h = ap is_plain h.same

plain_case : (figures : Figures) (before after : Bool) (base : Start) (front : List Entry) (n seat : ℕ) (rows : Rows) (speaker : Speaker) (read : Result Line ℕ) (moment : ℕ) (answer : Answer) → may_run read ≡ true →
    (let ask = ask_read rows speaker read moment in
    IsRecorded base.state front seat ask answer ⊎ IsNotRecorded base front ask answer ⊎ IsHouse figures.journal figures before after base.state front n ask answer ⊎ IsMemory figures ask.what answer) → is_plain answer ≡ true
plain_case figures before after base front n seat rows speaker read moment answer e (inl r) = ap is_plain r.same ∙ plain_machine (replayed_from base.state r.before) rows speaker read moment e
plain_case figures before after base front n seat rows speaker read moment answer e (inr (inl r)) =
    let machine = answer_to (replayed_from base.state front) (ask_read rows speaker read moment) in
    ap is_plain (r.same ∙ same_answer base front rows speaker.draft read machine e) ∙ plain_machine (replayed_from base.state front) rows speaker read moment e
plain_case figures before after base front n seat rows speaker read moment answer e (inr (inr (inl house))) = plain_house figures.journal figures before after base.state front n (ask_read rows speaker read moment) answer house
plain_case figures before after base front n seat rows speaker read moment answer e (inr (inr (inr memory))) = ap is_plain memory.same

-- the reply is plain
pub plain_told : (figures : Figures) (before after : Bool) (h : History) (seat : ℕ) (rows : Rows) (speaker : Speaker) (read : Result Line ℕ) (moment : ℕ) (reply : Reply) → may_run read ≡ true →
    IsTold figures before after h seat (ask_read rows speaker read moment) reply → is_plain reply.answer ≡ true
plain_told figures before after h seat rows speaker read moment reply e t = plain_case figures before after h.base t.front reply.at seat rows speaker read moment reply.answer e t.one

-- so it leaves the speaker as it is
pub plain_speaker : (speaker : Speaker) (read : Result Line ℕ) (answer : Answer) → is_plain answer ≡ true → speaker ≡ speaker_after speaker read answer
plain_speaker speaker read (Greeted name) e = absurd (let bad = e in cc)
plain_speaker speaker read (Noted size) e = absurd (let bad = e in cc)
plain_speaker speaker read (Proposed cycle version before after) e = absurd (let bad = e in cc)
plain_speaker speaker read (Nothing cycle version) e = absurd (let bad = e in cc)
plain_speaker speaker read answer e = refl

-- and does not end the session
pub plain_stays : (answer : Answer) → is_plain answer ≡ true → is_bye answer ≡ false
plain_stays Left e = absurd (let bad = e in cc)
plain_stays answer e = refl

-- a line that may stand in a run has one command
pub runs_one : (read : Result Line ℕ) → may_run read ≡ true → proposal_in read ≡ None
runs_one (Ok (Propose cycle mode)) e = absurd (let bad = e in cc)
runs_one read e = refl
