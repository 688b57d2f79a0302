-- A session that was told of no stop is answered line by line.
use Rattle.std.proofs.Common.{◌≡◌, ◌⊎◌, ◌<◌, ◌+◌, ℕ, Bool, true, false, cond, not, IsTrue, List, [], ◌∷◌, ◌++◌, length, Option, Some, None, Result, Ok, refl, sym, subst, ap, inl, inr, ◌∙◌, arith, append_assoc, length-append}
use Rattle.std.specs.Prelude.{nat_lt}
use Rattle.std.proofs.lemmas.Bool.{not-true, and_parts}
use Rattle.std.proofs.lemmas.Bool.Decides.{nat_tests}
use Rattle.network_laws.specs.Solutions.{SolutionData}
use Rattle.outside.specs.Flow.{Flow, Gives, IsAtEnd}
use Rattle.command_types.specs.declared.answer.Answer.{Answer}
use Rattle.command_types.specs.declared.answer.Answer.TheVariants.{Begun, Problems, No}
use Rattle.command_types.specs.declared.answer.Reply.{Reply}
use Rattle.command_types.specs.declared.ask.Ask.{Ask}
use Rattle.command_types.specs.declared.ask.Entry.{Entry}
use Rattle.command_types.specs.declared.cycle.Mode.{Mode}
use Rattle.command_types.specs.declared.figures.Figures.{Figures}
use Rattle.command_types.specs.declared.figures.JournalFigures.{JournalFigures}
use Rattle.command_types.specs.declared.line.Line.{Line}
use Rattle.command_types.specs.declared.line.Line.TheVariants.{Propose}
use Rattle.command_types.specs.declared.refusal.Refusal.{Refusal}
use Rattle.command_types.specs.declared.refusal.Refusal.TheVariants.{JournalFull, Stopped, DiskFault, Memory as NoMemory}
use Rattle.command_types.specs.Grammar.{line_within}
use Rattle.command_types.specs.History.{History, longer, recorded, is_recorded, replayed_from}
use Rattle.command_types.specs.Lines.{cut_of, lines_of}
use Rattle.command_types.specs.Machine.{answer_to, first_of, changes, is_refusal}
use Rattle.command_types.specs.Offers.{answer_at}
use Rattle.command_types.specs.Roster.{Rows}
use Rattle.command_types.specs.Session.{Speaker, nobody, speaker_after, is_bye, Standing, Mark, mark_of, IsAsked, IsProposed, IsReplied, IsTalk, GoesOnFetched, GoesOnBegun, ask_begin, ask_fetch, ask_post}
use Rattle.command_types.specs.Sizes.{journal_limit, frame_size}
use Rattle.command_types.specs.Told.{IsTold, IsRecorded, IsNotRecorded, IsHouse, IsMemory, journal_size, tells_stop}
use Rattle.command_types.proofs.OfferFacts.{changes_stay}
use Rattle.command_types.proofs.StopFacts.{is_desks, answer_plain}
use Rattle.session.specs.declared.serve.SessionEnd.{SessionEnd}
use Rattle.session.specs.declared.serve.SessionEnd.TheVariants.{Ended, SourceFault, SinkFault, Limit, Memory}
use Rattle.session.specs.Answered.{IsOfMachine, IsOfFullJournal, IsAnswer, IsCommandOf, IsLineAnswered, AreAnswered, IsInputAnswered, EveryLineIsAnswered}
use Rattle.session.specs.Ending.{session_limit, Ends}
use Rattle.session.specs.Serving.{Sight, standing, ask_read, Written, Left, CutOff}

-- ---- one command

less : (a b : ℕ) → nat_lt a b ≡ true → a < b
less a b e = grind (arith, nat_tests)

recorded_one : (seat : ℕ) (ask : Ask) (answer : Answer) → IsTrue (is_recorded ask.what answer) → recorded seat ask answer ≡ record { seat = seat; ask = ask } ∷ []
recorded_one seat ask answer is = ap (λ t. cond {A = List Entry} t (record { seat = seat; ask = ask } ∷ []) []) is

recorded_none : (seat : ℕ) (ask : Ask) (answer : Answer) → IsTrue (not (is_recorded ask.what answer)) → recorded seat ask answer ≡ []
recorded_none seat ask answer is = ap (λ t. cond {A = List Entry} t (record { seat = seat; ask = ask } ∷ []) []) (not-true (is_recorded ask.what answer) is)

-- what a desk alone answers has the tellings of a stop among it
stop_desks : (answer : Answer) → is_desks answer ≡ false → tells_stop answer ≡ false
stop_desks (No (Stopped at)) plain = cc
stop_desks (No DiskFault) plain = cc
stop_desks answer plain = refl

-- a desk that is not stopped refuses for a full journal alone
full_alone : (full : Bool) (size n : ℕ) (refusal : Refusal) → first_of ((full, JournalFull size) ∷ (false, Stopped n) ∷ (false, DiskFault) ∷ []) ≡ Some refusal → (full ≡ true) × (refusal ≡ JournalFull size)
full_alone true size n refusal e = (refl, cc)
full_alone false size n refusal e = absurd (cc)

module _ (figures : Figures) (h : History) (seat : ℕ) (ask : Ask) (reply : Reply) where
  module _ (t : IsTold figures false false h seat ask reply) where
    of_recorded : IsRecorded h.base.state t.front seat ask reply.answer → IsOfMachine h seat ask reply
    of_recorded r =
        let entry : Entry = record { seat = seat; ask = ask } in
        let one : recorded seat ask reply.answer ≡ entry ∷ [] = recorded_one seat ask reply.answer r.change in
        let size : length t.front ≡ length r.before + 1 = ap length r.last ∙ length-append r.before (entry ∷ []) in
        let more : length (recorded seat ask reply.answer) ≡ 1 = ap length one in
        record {
          front = r.before;
          back = t.back;
          split = t.split ∙ ap (λ es. es ++ t.back) r.last ∙ append_assoc r.before (entry ∷ []) t.back ∙ ap (λ es. r.before ++ (es ++ t.back)) (sym one);
          place = omega (arith, t.place, size, more);
          same = r.same ∙ sym (changes_stay h.base r.before ask.what (answer_to (replayed_from h.base.state r.before) ask) (and_parts (changes ask.what) (not (is_refusal reply.answer)) r.change).0);
        }

    of_not_recorded : IsNotRecorded h.base t.front ask reply.answer → IsOfMachine h seat ask reply
    of_not_recorded r =
        let none : recorded seat ask reply.answer ≡ [] = recorded_none seat ask reply.answer r.no_change in
        let more : length (recorded seat ask reply.answer) ≡ 0 = ap length none in
        record {
          front = t.front;
          back = t.back;
          split = t.split ∙ ap (λ es. t.front ++ (es ++ t.back)) (sym none);
          place = omega (arith, t.place, more);
          same = r.same;
        }

    of_house : (journal : Option JournalFigures) → figures.journal ≡ journal → IsHouse journal figures false false h.base.state t.front reply.at ask reply.answer → IsOfFullJournal figures h ask reply
    of_house None e r = absurd r
    of_house (Some journal) e r =
        let size : ℕ = journal_size figures journal t.front in
        let alone = full_alone (nat_lt journal_limit (size + frame_size ask)) size reply.at r.refusal r.first in
        record {
          journal = journal;
          kept = e;
          front = t.front;
          back = t.back;
          split = t.split;
          place = t.place;
          change = r.change;
          full = less journal_limit (size + frame_size ask) alone.0;
          same = r.same ∙ ap (λ refusal. No refusal) alone.1;
        }

    one_of : IsRecorded h.base.state t.front seat ask reply.answer ⊎ IsNotRecorded h.base t.front ask reply.answer ⊎ IsHouse figures.journal figures false false h.base.state t.front reply.at ask reply.answer ⊎ IsMemory figures ask.what reply.answer →
        IsAnswer figures h seat ask reply
    one_of (inl r) = inl (of_recorded r)
    one_of (inr (inl r)) = inl (of_not_recorded r)
    one_of (inr (inr (inl r))) = inr (inl (of_house figures.journal refl r))
    one_of (inr (inr (inr r))) = inr (inr r)

  told_answer : IsTold figures false false h seat ask reply → IsAnswer figures h seat ask reply
  told_answer t = one_of t t.one

  -- no such answer tells a stop
  answer_runs : IsAnswer figures h seat ask reply → tells_stop reply.answer ≡ false
  answer_runs (inl m) = ap tells_stop m.same ∙ stop_desks (answer_at h.base m.front ask) (answer_plain h.base m.front ask)
  answer_runs (inr (inl f)) = ap tells_stop f.same
  answer_runs (inr (inr e)) = ap tells_stop e.same

  -- what is told in a history is told in a longer one
  answer_longer : (more : List Entry) → IsAnswer figures h seat ask reply → IsAnswer figures (longer h more) seat ask reply
  answer_longer more (inl m) = inl (record {
    front = m.front;
    back = m.back ++ more;
    split = ap (λ es. es ++ more) m.split ∙ append_assoc m.front (recorded seat ask reply.answer ++ m.back) more ∙ ap (λ es. m.front ++ es) (append_assoc (recorded seat ask reply.answer) m.back more);
    place = m.place;
    same = m.same;
  })
  answer_longer more (inr (inl f)) = inr (inl (record {
    journal = f.journal;
    kept = f.kept;
    front = f.front;
    back = f.back ++ more;
    split = ap (λ es. es ++ more) f.split ∙ append_assoc f.front f.back more;
    place = f.place;
    change = f.change;
    full = f.full;
    same = f.same;
  }))
  answer_longer more (inr (inr e)) = inr (inr e)

-- a stop that never ends did not begin where there is none
ran_before : (before after : Bool) → (before ≡ true → after ≡ true) → after ≡ false → before ≡ false
ran_before true after stays runs = let stopped = stays refl in absurd (cc)
ran_before false after stays runs = refl

module _ (figures : Figures) (h : History) (seat : ℕ) where
  module _ {clock : ℕ → Bool} (from : Mark) (ask : Ask) (reply : Reply) (made : List Entry) (to : Mark) (a : IsAsked clock figures h seat from ask reply made to) (runs : to.stopped ≡ false) where
    not_before : a.before ≡ false
    not_before = ran_before a.before to.stopped a.stays runs

    asked_from : from.stopped ≡ false
    asked_from = ran_before from.stopped a.before a.known not_before

    asked_answer : IsAnswer figures h seat ask reply
    asked_answer =
        told_answer figures h seat ask reply
        (subst (λ b. IsTold figures b false h seat ask reply) not_before (subst (λ b. IsTold figures a.before b h seat ask reply) runs a.told))

  -- ---- the commands of a PROPOSE

  -- the reply is the one before, or want of memory, or what this command is answered
  abbrev OneOf : (by : Option (List ℕ)) (cycle version : ℕ) (last reply : Reply) → Type 0
  OneOf by cycle version last reply =
      (reply ≡ last) ⊎ ((reply.answer ≡ No NoMemory) ⊎ ((solutions : List SolutionData) × (moment : ℕ) × IsAnswer figures h seat (ask_post by cycle version solutions moment) reply))

  module _ (by : Option (List ℕ)) (cycle : ℕ) where
    fetched_on : (clock : ℕ → Bool) (answer : Answer) (mid : Mark) (version begun_at : ℕ) (fetched reply : Reply) (made : List Entry) (to : Mark) → to.stopped ≡ false →
        GoesOnFetched answer clock figures h seat mid by cycle version begun_at fetched reply made to → (mid.stopped ≡ false) × OneOf by cycle version fetched reply
    fetched_on clock (Problems problems) mid version begun_at fetched reply made to runs (inl u) =
        (ap (λ (m : Mark). m.stopped) (sym u.2) ∙ runs, inr (inl (ap (λ (r : Reply). r.answer) u.0)))
    fetched_on clock (Problems problems) mid version begun_at fetched reply made to runs (inr p) =
        let ask : Ask = ask_post by cycle version p.solutions p.moment in
        (asked_from mid ask reply made to p.asked runs, inr (inr (p.solutions, p.moment, asked_answer mid ask reply made to p.asked runs)))
    fetched_on clock answer mid version begun_at fetched reply made to runs l = (ap (λ (m : Mark). m.stopped) (sym l.2) ∙ runs, inl l.0)

    -- the reply is what one of the commands is answered
    abbrev IsOfPropose : Mode → Reply → Type 0
    IsOfPropose mode reply =
        ((moment : ℕ) × IsAnswer figures h seat (ask_begin by cycle mode moment) reply)
        ⊎ (((version : ℕ) × (moment : ℕ) × IsAnswer figures h seat (ask_fetch by cycle version moment) reply)
        ⊎ ((version : ℕ) × (solutions : List SolutionData) × (moment : ℕ) × IsAnswer figures h seat (ask_post by cycle version solutions moment) reply))

    fetch_or : (mode : Mode) (version moment : ℕ) (fetched reply : Reply) → IsAnswer figures h seat (ask_fetch by cycle version moment) fetched → OneOf by cycle version fetched reply → IsOfPropose mode reply
    fetch_or mode version moment fetched reply answered (inl same) = inr (inl (version, moment, subst (λ r. IsAnswer figures h seat (ask_fetch by cycle version moment) r) (sym same) answered))
    fetch_or mode version moment fetched reply answered (inr (inl none)) = inr (inl (version, moment, inr (inr (record { same = none; takes = λ e. absurd (cc) }))))
    fetch_or mode version moment fetched reply answered (inr (inr (solutions, at, posted))) = inr (inr (version, solutions, at, posted))

    begun_on : (clock : ℕ → Bool) (answer : Answer) (mode : Mode) (moment : ℕ) (mid : Mark) (begun reply : Reply) (made : List Entry) (to : Mark) → to.stopped ≡ false → (mid.stopped ≡ false → IsAnswer figures h seat (ask_begin by cycle mode moment) begun) →
        GoesOnBegun answer clock figures h seat mid by cycle begun reply made to → (mid.stopped ≡ false) × IsOfPropose mode reply
    begun_on clock (Begun number version) mode moment mid begun reply made to runs answered f =
        let on = fetched_on clock f.fetched.answer f.mid version begun.at f.fetched reply f.others to runs f.goes_on in
        let ask : Ask = ask_fetch by cycle version f.moment in
        (asked_from mid ask f.fetched f.first f.mid f.asked on.0, fetch_or mode version f.moment f.fetched reply (asked_answer mid ask f.fetched f.first f.mid f.asked on.0) on.1)
    begun_on clock answer mode moment mid begun reply made to runs answered l =
        let ran : mid.stopped ≡ false = ap (λ (m : Mark). m.stopped) (sym l.2) ∙ runs in
        (ran, inl (moment, subst (λ r. IsAnswer figures h seat (ask_begin by cycle mode moment) r) (sym l.0) (answered ran)))

    proposed_on : {clock : ℕ → Bool} (from : Mark) (mode : Mode) (reply : Reply) (made : List Entry) (to : Mark) → to.stopped ≡ false → IsProposed clock figures h seat from by cycle mode reply made to → (from.stopped ≡ false) × IsOfPropose mode reply
    proposed_on {clock} from mode reply made to runs p =
        let ask : Ask = ask_begin by cycle mode p.moment in
        let on = begun_on clock p.begun.answer mode p.moment p.mid p.begun reply p.others to runs (asked_answer from ask p.begun p.first p.mid p.asked) p.goes_on in
        (asked_from from ask p.begun p.first p.mid p.asked on.0, on.1)

  -- ---- one line

  -- the reply is what a command of the line is answered
  abbrev IsOfLine : Rows → Speaker → Result Line ℕ → Reply → Type 0
  IsOfLine rows speaker read reply = (ask : Ask) × IsCommandOf rows speaker read ask × IsAnswer figures h seat ask reply

  of_propose : (rows : Rows) (speaker : Speaker) (cycle : ℕ) (mode : Mode) (reply : Reply) → IsOfPropose speaker.party cycle mode reply → IsOfLine rows speaker (Ok (Propose cycle mode)) reply
  of_propose rows speaker cycle mode reply (inl (moment, a)) = (ask_begin speaker.party cycle mode moment, inl refl, a)
  of_propose rows speaker cycle mode reply (inr (inl (version, moment, a))) = (ask_fetch speaker.party cycle version moment, inr (inl (version, refl)), a)
  of_propose rows speaker cycle mode reply (inr (inr (version, solutions, moment, a))) = (ask_post speaker.party cycle version solutions moment, inr (inr (version, solutions, refl)), a)

  line_on : (clock : ℕ → Bool) (from : Mark) (rows : Rows) (speaker : Speaker) (read : Result Line ℕ) (reply : Reply) (made : List Entry) (to : Mark) → to.stopped ≡ false →
      IsReplied clock figures h seat from rows speaker read reply made to → (from.stopped ≡ false) × IsOfLine rows speaker read reply
  line_on clock from rows speaker (Ok (Propose cycle mode)) reply made to runs p =
      let on = proposed_on speaker.party cycle from mode reply made to runs p in
      (on.0, of_propose rows speaker cycle mode reply on.1)
  line_on clock from rows speaker read reply made to runs a =
      let ask : Ask = ask_read rows speaker read a.0 in
      (asked_from from ask reply made to a.1 runs, (ask, refl, asked_answer from ask reply made to a.1 runs))

  -- ---- one line after another

  talk_ran : (clock : ℕ → Bool) (from : Standing) (lines : List (List ℕ)) (text : List ℕ) (made : List Entry) (to : Standing) → to.stopped ≡ false → IsTalk clock figures h seat from lines text made to → from.stopped ≡ false
  talk_ran clock from [] text made to runs (none, unmade, same) = ap (λ (s : Standing). s.stopped) (sym same) ∙ runs
  talk_ran clock from (line ∷ lines) text made to runs (next, head, more, first, others, a, joined, order, tail) =
      (line_on clock (mark_of from) h.base.state.roster from.speaker (line_within line) a.reply first (mark_of next) (talk_ran clock next lines more others to runs tail) a.replied).0

  -- behind an accepted BYE no line is answered
  over_is_last : (clock : ℕ → Bool) (from : Standing) (lines : List (List ℕ)) (text : List ℕ) (made : List Entry) (to : Standing) → IsTalk clock figures h seat from lines text made to → from.over ≡ true → (text ≡ []) × (to.over ≡ true)
  over_is_last clock from [] text made to (none, unmade, same) over = (none, ap (λ (s : Standing). s.over) same ∙ over)
  over_is_last clock from (line ∷ lines) text made to (next, head, more, first, others, a, joined, order, tail) over = let none = a.open_yet in absurd (cc)

  bye_or_not : (bye over : Bool) (P Q R : Type 0) → over ≡ bye → (over ≡ true → P × Q) → (over ≡ false → R) → ((bye ≡ true) × P × Q) ⊎ ((bye ≡ false) × R)
  bye_or_not true over P Q R is ends goes_on = inl (refl, (ends is).0, (ends is).1)
  bye_or_not false over P Q R is ends goes_on = inr (refl, goes_on is)

  pub talk_answered : (clock : ℕ → Bool) (from : Standing) (lines : List (List ℕ)) (text : List ℕ) (made : List Entry) (to : Standing) → from.over ≡ false → to.stopped ≡ false → IsTalk clock figures h seat from lines text made to →
      AreAnswered figures h seat from.speaker lines text to.over
  talk_answered clock from [] text made to open_yet runs (none, unmade, same) = (none, ap (λ (s : Standing). s.over) same ∙ open_yet)
  talk_answered clock from (line ∷ lines) text made to open_yet runs (next, head, more, first, others, a, joined, order, tail) =
      let on = line_on clock (mark_of from) h.base.state.roster from.speaker (line_within line) a.reply first (mark_of next) (talk_ran clock next lines more others to runs tail) a.replied in
      let rest : next.over ≡ false → AreAnswered figures h seat (speaker_after from.speaker (line_within line) a.reply.answer) lines more to.over = λ o.
      subst (λ speaker. AreAnswered figures h seat speaker lines more to.over) a.speaker (talk_answered clock next lines more others to o runs tail) in
      let here : IsLineAnswered figures h seat from.speaker line head a.reply = record {
        ask = on.1.0;
        command = on.1.1;
        answer = on.1.2;
        runs = answer_runs figures h seat on.1.0 a.reply on.1.2;
        said = a.text;
      } in
      (a.reply, head, more, here, joined, bye_or_not (is_bye a.reply.answer) next.over _ _ _ a.over (over_is_last clock next lines more others to tail) rest)

  -- lines behind an accepted BYE change nothing
  pub left_more : (speaker : Speaker) (said others : List (List ℕ)) (text : List ℕ) → AreAnswered figures h seat speaker said text true → AreAnswered figures h seat speaker (said ++ others) text true
  left_more speaker [] others text (none, left) = absurd (cc)
  left_more speaker (line ∷ said) others text (reply, head, more, here, joined, inl bye) = (reply, head, more, here, joined, inl bye)
  left_more speaker (line ∷ said) others text (reply, head, more, here, joined, inr (on, rest)) =
      (reply, head, more, here, joined, inr (on, left_more (speaker_after speaker (line_within line) reply.answer) said others more rest))

  -- what is answered in a history is answered in a longer one
  line_longer : (more : List Entry) (speaker : Speaker) (line text : List ℕ) (reply : Reply) → IsLineAnswered figures h seat speaker line text reply → IsLineAnswered figures (longer h more) seat speaker line text reply
  line_longer more speaker line text reply l = record {
    ask = l.ask;
    command = l.command;
    answer = answer_longer figures h seat l.ask reply more l.answer;
    runs = l.runs;
    said = l.said;
  }

  answered_longer : (more : List Entry) (speaker : Speaker) (lines : List (List ℕ)) (text : List ℕ) (left : Bool) → AreAnswered figures h seat speaker lines text left → AreAnswered figures (longer h more) seat speaker lines text left
  answered_longer more speaker [] text left none = none
  answered_longer more speaker (line ∷ lines) text left (reply, head, rest, here, joined, inl bye) = (reply, head, rest, line_longer more speaker line head reply here, joined, inl bye)
  answered_longer more speaker (line ∷ lines) text left (reply, head, rest, here, joined, inr (on, others)) =
      (reply, head, rest, line_longer more speaker line head reply here, joined, inr (on, answered_longer more (speaker_after speaker (line_within line) reply.answer) lines rest left others))

  pub input_longer : (more : List Entry) (opened flow : Option Flow) (begun taken : Option (List ℕ)) (limit : Bool) → IsInputAnswered figures h seat opened flow begun taken limit → IsInputAnswered figures (longer h more) seat opened flow begun taken limit
  input_longer more opened flow begun taken limit a = record {
    bytes = a.bytes;
    gives = a.gives;
    left = a.left;
    lines = a.lines;
    which = a.which;
    text = a.text;
    answered = answered_longer more nobody a.lines a.text a.left a.answered;
    took = a.took;
  }

-- ---- a session

module _ (start now : Sight) (opened flow : Option Flow) (begun taken : Option (List ℕ)) (runs : now.stopped ≡ false) where
  written_ran : {clock : ℕ → Bool} (lines : List (List ℕ)) → Written clock start begun taken now lines → start.stopped ≡ false
  written_ran {clock} lines w =
      talk_ran start.seat.figures now.history start.seat.number clock (standing start nobody false) lines w.text w.made w.to (ap (λ (m : Mark). m.stopped) w.there ∙ runs) w.talk

  cut_ran : {clock : ℕ → Bool} (ahead lines : List (List ℕ)) → CutOff clock start ahead begun taken now lines → start.stopped ≡ false
  cut_ran {clock} ahead lines c =
      talk_ran start.seat.figures now.history start.seat.number clock (standing start nobody false) c.said c.text c.made c.to (ap (λ (m : Mark). m.stopped) c.there ∙ runs) c.talk

  -- a session that was told of no stop began before any
  pub session_ran : (clock : ℕ → Bool) (end : SessionEnd) → Ends clock start opened flow begun taken now end → start.stopped ≡ false
  session_ran clock Ended (bytes, gives, inl (at_end, within, w)) = written_ran (lines_of bytes) w
  session_ran clock Ended (bytes, gives, inr (within, l)) = written_ran l.said l.written
  session_ran clock SourceFault (bytes, gives, within, (w, on)) = written_ran (cut_of bytes).whole w
  session_ran clock SinkFault (bytes, gives, inl (within, c)) = cut_ran (cut_of c.early).whole (cut_of bytes).whole c.cut
  session_ran clock SinkFault (bytes, gives, inr (at_end, within, c)) = cut_ran (cut_of c.early).whole (lines_of bytes) c.cut
  session_ran clock Limit (bytes, gives, within, (w, on)) = written_ran (cut_of bytes).whole w
  session_ran clock Memory (read, wrote, same) = ap (λ (s : Sight). s.stopped) (sym same) ∙ runs

  written_answered : {clock : ℕ → Bool} (lines : List (List ℕ)) (w : Written clock start begun taken now lines) → AreAnswered start.seat.figures now.history start.seat.number nobody lines w.text w.to.over
  written_answered {clock} lines w =
      talk_answered start.seat.figures now.history start.seat.number clock (standing start nobody false) lines w.text w.made w.to refl (ap (λ (m : Mark). m.stopped) w.there ∙ runs) w.talk

  module _ (bytes : List ℕ) (gives : Gives opened flow bytes) where
    at_end_answered : {clock : ℕ → Bool} → IsAtEnd flow → Written clock start begun taken now (lines_of bytes) → IsInputAnswered start.seat.figures now.history start.seat.number opened flow begun taken false
    at_end_answered at_end w = record {
      bytes = bytes;
      gives = gives;
      left = w.to.over;
      lines = lines_of bytes;
      which = inl (at_end, refl);
      text = w.text;
      answered = written_answered (lines_of bytes) w;
      took = w.took;
    }

    left_answered : {clock : ℕ → Bool} → Left clock start begun taken now (cut_of bytes).whole → IsInputAnswered start.seat.figures now.history start.seat.number opened flow begun taken false
    left_answered l =
        let said : AreAnswered start.seat.figures now.history start.seat.number nobody l.said l.written.text true =
        subst (λ over. AreAnswered start.seat.figures now.history start.seat.number nobody l.said l.written.text over) l.over (written_answered l.said l.written) in
        record {
          bytes = bytes;
          gives = gives;
          left = true;
          lines = (cut_of bytes).whole;
          which = inr (refl, refl);
          text = l.written.text;
          answered = subst (λ lines. AreAnswered start.seat.figures now.history start.seat.number nobody lines l.written.text true) (sym l.order)
              (left_more start.seat.figures now.history start.seat.number nobody l.said l.others l.written.text said);
          took = l.written.took;
        }

    limit_answered : {clock : ℕ → Bool} → length bytes ≡ session_limit → (w : Written clock start begun taken now (cut_of bytes).whole) → w.to.over ≡ false → IsInputAnswered start.seat.figures now.history start.seat.number opened flow begun taken true
    limit_answered size w open_yet = record {
      bytes = bytes;
      gives = gives;
      left = w.to.over;
      lines = (cut_of bytes).whole;
      which = (size, open_yet, refl);
      text = w.text;
      answered = written_answered (cut_of bytes).whole w;
      took = w.took;
    }

pub ended_answered : EveryLineIsAnswered Ended false
ended_answered clock start now opened flow begun taken (bytes, gives, inl (at_end, within, w)) runs = at_end_answered start now opened flow begun taken runs bytes gives at_end w
ended_answered clock start now opened flow begun taken (bytes, gives, inr (within, l)) runs = left_answered start now opened flow begun taken runs bytes gives l

pub limited_answered : EveryLineIsAnswered Limit true
limited_answered clock start now opened flow begun taken (bytes, gives, size, (w, open_yet)) runs = limit_answered start now opened flow begun taken runs bytes gives size w open_yet
