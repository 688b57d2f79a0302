-- How a line is replied to.
use Rattle.std.proofs.Common.{◌≡◌, ℕ, ◌+◌, ◌≤◌, length, IsTrue, Bool, true, false, ◌&&◌, List, [], ◌∷◌, Option, Some, None, Result, Ok, Err, refl, sym, subst, ap, ◌∙◌, cond, min, arith}
use Rattle.std.proofs.lemmas.Bool.{false≢true}
use Rattle.std.proofs.lemmas.Bool.Decides.{nat_tests}
use Rattle.command_types.specs.declared.line.Line.{Line}
use Rattle.command_types.specs.declared.line.Line.TheVariants.{Hello, Trade, Affirm, End, Hold, Free, Tol, Nets, Statement, Freeze, Begin, Limits, Row, Pot, Post, Propose, Next, Plan, Proof, Accept, Decline, Cancel, Bye}
use Rattle.command_types.specs.declared.cycle.Mode.{Mode}
use Rattle.command_types.specs.declared.ask.Ask.{Ask}
use Rattle.command_types.specs.declared.ask.Entry.{Entry}
use Rattle.command_types.specs.declared.answer.Answer.TheVariants.{No}
use Rattle.command_types.specs.declared.answer.Reply.{Reply}
use Rattle.command_types.specs.declared.refusal.Refusal.TheVariants.{Memory}
use Rattle.command_types.specs.Roster.{Rows}
use Rattle.command_types.specs.Machine.{changes}
use Rattle.command_types.specs.History.{end_of, recorded}
use Rattle.command_types.specs.Told.{is_accept}
use Rattle.command_types.specs.Grammar.{line_within}
use Rattle.command_types.specs.Session.{Speaker, Draft, what_or_fault, IsTime, IsAsked, IsProposed, IsReplied, speaker_after}
use Rattle.command_types.proofs.HistoryFacts.{told_memory}
use Rattle.command_text.specs.declared.bad_line.BadLine.{BadLine}
use Rattle.command_text.specs.ReadOf.{read_of}
use Rattle.session.specs.Asks.{read_within, line_read, proposal_in, is_vote}
use Rattle.session.specs.declared.draft.Draft.{Draft as KeptDraft}
use Rattle.session.specs.KeptDraft.{MayNote, HasRoom}
use Rattle.session.specs.Serving.{Sight, mark, roster_of, ask_read, Grows, Asks, AnswersRead, Answers}
use Rattle.session.specs.Proposing.{Proposes}
use Rattle.session.proofs.GrowthFacts.{grows_none}

read_again : (read : Result Line ℕ) → line_read (read_of read) ≡ read
read_again (Ok line) = refl
read_again (Err at) = refl

-- what was read of a line is what the grammar says of it
pub is_read : (line : List ℕ) (read : Result Line BadLine) → read ≡ read_within line → line_read read ≡ line_within line
is_read line read is = ap line_read is ∙ read_again (line_within line)

-- what was asked for what was read of a line answers the line
pub answers_line : {clock : ℕ → Bool} (old new : Sight) (before after : Speaker) (line : List ℕ) (read : Result Line BadLine) (reply : Reply) → read ≡ read_within line →
    AnswersRead clock old new before after (line_read read) reply → Answers clock old new before after line reply
answers_line {clock} old new before after line read reply is a =
    let P : Result Line ℕ → Type 0 = λ r. AnswersRead clock old new before after r reply in
    subst P (is_read line read is) a

-- a line of one command is replied to by it
replied_one : {clock : ℕ → Bool} (old new : Sight) (rows : Rows) (speaker : Speaker) (read : Result Line ℕ) (reply : Reply) (made : List Entry) → proposal_in read ≡ None → {moment : ℕ} →
    IsAsked clock old.seat.figures new.history old.seat.number (mark old) (ask_read rows speaker read moment) reply made (mark new) →
    IsReplied clock old.seat.figures new.history old.seat.number (mark old) rows speaker read reply made (mark new)
replied_one old new rows speaker (Ok (Propose cycle mode)) reply made none a = absurd (let bad = none in cc)
replied_one old new rows speaker read reply made none {moment} a = (moment, a)

pub answers_one : {clock : ℕ → Bool} (old new : Sight) (before after : Speaker) (read : Result Line ℕ) (ask : Ask) (reply : Reply) → proposal_in read ≡ None → ask ≡ ask_read (roster_of old) before read ask.moment →
    Asks clock old new ask reply → after ≡ speaker_after before read reply.answer → AnswersRead clock old new before after read reply
answers_one {clock} old new before after read ask reply none is a heard =
    let P : Ask → Type 0 = λ k. Asks clock old new k reply in
    let b = subst P is a in
    record { made = _; grows = b.grows; replied = replied_one old new (roster_of old) before read reply _ none b.asked; speaker = heard }

replied_many : {clock : ℕ → Bool} (old new : Sight) (rows : Rows) (speaker : Speaker) (read : Result Line ℕ) (cycle : ℕ) (mode : Mode) (reply : Reply) (made : List Entry) → proposal_in read ≡ Some (cycle, mode) →
    IsProposed clock old.seat.figures new.history old.seat.number (mark old) speaker.party cycle mode reply made (mark new) →
    IsReplied clock old.seat.figures new.history old.seat.number (mark old) rows speaker read reply made (mark new)
replied_many {clock} old new rows speaker (Ok (Propose c m)) cycle mode reply made is p =
    let pair : (cycle, mode) ≡ (c, m) = let e = sym is in let f : (c, m) ≡ (cycle, mode) = cc in sym f in
    let cycles : cycle ≡ c = ap (λ (x : ℕ × Mode). x.0) pair in
    let modes : mode ≡ m = ap (λ (x : ℕ × Mode). x.1) pair in
    let P : ℕ → Mode → Type 0 = λ x y. IsProposed clock old.seat.figures new.history old.seat.number (mark old) speaker.party x y reply made (mark new) in
    subst (λ x. P x m) cycles (subst (P cycle) modes p)
replied_many old new rows speaker read cycle mode reply made is p = absurd (let bad = is in cc)

-- a PROPOSE is replied to by its commands
pub answers_many : {clock : ℕ → Bool} (old new : Sight) (before after : Speaker) (read : Result Line ℕ) (by : Option (List ℕ)) (cycle : ℕ) (mode : Mode) (reply : Reply) → proposal_in read ≡ Some (cycle, mode) → by ≡ before.party →
    Proposes clock old new by cycle mode reply → after ≡ speaker_after before read reply.answer → AnswersRead clock old new before after read reply
answers_many {clock} old new before after read by cycle mode reply is party p heard =
    let P : Option (List ℕ) → Type 0 = λ b. IsProposed clock old.seat.figures new.history old.seat.number (mark old) b cycle mode reply p.made (mark new) in
    record { made = p.made; grows = p.grows; replied = replied_many old new (roster_of old) before read cycle mode reply p.made is (subst P party p.proposed); speaker = heard }

-- a PROPOSE notes nothing
pub notes_nothing : (draft : Draft) (read : Result Line ℕ) (cycle : ℕ) (mode : Mode) → proposal_in read ≡ Some (cycle, mode) → MayNote draft read
notes_nothing draft (Ok (Propose c m)) cycle mode is = tt
notes_nothing draft read cycle mode is = absurd (let bad = is in cc)

pub needs_no_room : (draft : KeptDraft) (read : Result Line BadLine) (cycle : ℕ) (mode : Mode) → proposal_in (line_read read) ≡ Some (cycle, mode) → HasRoom draft read
needs_no_room draft (Ok (Propose c m)) cycle mode is = tt
needs_no_room draft (Err fault) cycle mode is = tt
needs_no_room draft read cycle mode is = absurd (let bad = is in cc)

and_false : (t : Bool) → (t && false) ≡ false
and_false true = refl
and_false false = refl

nothing_recorded : (seat : ℕ) (ask : Ask) → recorded seat ask (No Memory) ≡ []
nothing_recorded seat ask = ap (λ t. cond {A = List Entry} t (record { seat = seat; ask = ask } ∷ []) []) (and_false (changes ask.what))

-- a line that is no vote gives no vote
pub votes_none : (rows : Rows) (draft : Draft) (read : Result Line ℕ) → is_vote read ≡ false → is_accept (what_or_fault rows draft read) ≡ false
votes_none rows draft (Ok (Hello name key)) other = refl
votes_none rows draft (Ok (Trade seller buyer product amount day)) other = refl
votes_none rows draft (Ok (Affirm trade)) other = refl
votes_none rows draft (Ok (End trade)) other = refl
votes_none rows draft (Ok (Hold trade)) other = refl
votes_none rows draft (Ok (Free trade)) other = refl
votes_none rows draft (Ok (Tol counterparty product side floor ceiling)) other = refl
votes_none rows draft (Ok (Nets product)) other = refl
votes_none rows draft (Ok Statement) other = refl
votes_none rows draft (Ok (Freeze day)) other = refl
votes_none rows draft (Ok (Begin cycle mode)) other = refl
votes_none rows draft (Ok (Limits product)) other = refl
votes_none rows draft (Ok (Row product seller buyer amount)) other = refl
votes_none rows draft (Ok (Pot product member value)) other = refl
votes_none rows draft (Ok (Post cycle version)) other = refl
votes_none rows draft (Ok (Propose cycle mode)) other = refl
votes_none rows draft (Ok (Next position)) other = refl
votes_none rows draft (Ok (Plan cycle)) other = refl
votes_none rows draft (Ok (Proof cycle)) other = refl
votes_none rows draft (Ok (Accept cycle version)) other = other
votes_none rows draft (Ok (Decline cycle version)) other = refl
votes_none rows draft (Ok (Cancel cycle)) other = refl
votes_none rows draft (Ok Bye) other = refl
votes_none rows draft (Err at) other = refl

-- a clock that tells every moment
abbrev pub every : ℕ → Bool
every moment = true

pub every_time : (moment : ℕ) → moment ≤ 253402300799 → IsTime every moment
every_time moment most = record { now = moment; told = refl; same = sym (min_left moment most) }
  where
    min_left : (n : ℕ) → n ≤ 253402300799 → min n 253402300799 ≡ n
    min_left n le = grind (arith, nat_tests)

-- want of memory answers every line but a vote, and changes nothing
pub asks_memory : {clock : ℕ → Bool} (desk : Sight) (ask : Ask) → IsTime clock ask.moment → is_accept ask.what ≡ false → Asks clock desk desk ask (record { at = end_of desk.history; answer = No Memory })
asks_memory desk ask time other =
    let reply : Reply = record { at = end_of desk.history; answer = No Memory } in
    let G : List Entry → Type 0 = λ es. Grows desk desk es in
    record {
      grows = subst G (sym (nothing_recorded desk.seat.number ask)) (grows_none desk);
      asked = record {
        time = time;
        before = desk.stopped;
        told = told_memory desk.seat.figures desk.stopped desk.stopped desk.history desk.seat.number ask reply refl (record { same = refl; takes = λ e. absurd (false≢true (sym other ∙ e)) });
        later = subst (λ (es : List Entry). end_of desk.history + length es ≤ end_of desk.history) (sym (nothing_recorded desk.seat.number ask)) (omega arith);
        known = λ e. e;
        stays = λ e. e;
        runs = λ r. absurd (let no : IsTrue false = subst IsTrue (and_false (changes ask.what)) r in cc no);
        keeps = refl;
        position = refl;
      };
    }

pub answers_memory : {clock : ℕ → Bool} (desk : Sight) (before after : Speaker) (read : Result Line ℕ) (reply : Reply) (moment : ℕ) → IsTime clock moment → is_accept (what_or_fault (roster_of desk) before.draft read) ≡ false → proposal_in read ≡ None → reply ≡ record { at = end_of desk.history; answer = No Memory } → after ≡ before →
    AnswersRead clock desk desk before after read reply
answers_memory {clock} desk before after read reply moment time other none is same =
    let P : Reply → Type 0 = λ r. AnswersRead clock desk desk before after read r in
    subst P (sym is) (answers_one desk desk before after read (ask_read (roster_of desk) before read moment) _ none refl (asks_memory desk _ time other) same)
