-- Two talks of the same lines behind one history.
use Rattle.std.proofs.Common.{◌≡◌, ◌⊎◌, ℕ, ◌+◌, nat_lt, min, not, Bool, true, false, cond, List, [], ◌∷◌, ◌++◌, length, Option, Some, None, Result, Ok, All, refl, sym, subst, ap, ◌∙◌, inl, inr, append_assoc, arith}
use Rattle.std.proofs.lemmas.Bool.{and_parts}
use Rattle.std.proofs.lemmas.List.{length-append}
use Rattle.std.proofs.lemmas.List.Elements.{All-head, All-tail}
use Rattle.command_types.specs.declared.ask.Ask.{Ask}
use Rattle.command_types.specs.declared.ask.Entry.{Entry}
use Rattle.command_types.specs.declared.answer.Answer.{Answer}
use Rattle.command_types.specs.declared.answer.Reply.{Reply}
use Rattle.command_types.specs.declared.figures.Figures.{Figures}
use Rattle.command_types.specs.declared.figures.JournalFigures.{JournalFigures}
use Rattle.command_types.specs.declared.figures.State.{State}
use Rattle.command_types.specs.declared.line.Line.{Line}
use Rattle.command_types.specs.declared.line.Line.TheVariants.{Propose}
use Rattle.command_types.specs.declared.refusal.Refusal.{Refusal}
use Rattle.command_types.specs.declared.refusal.Refusal.TheVariants.{JournalFull, Stopped, DiskFault}
use Rattle.command_types.specs.Details.{reply_text}
use Rattle.command_types.specs.Grammar.{line_within}
use Rattle.command_types.specs.History.{History, end_of, longer, recorded, is_recorded, replayed_from}
use Rattle.command_types.specs.declared.moment.TheConstants.{MOST_MOMENT}
use Rattle.command_types.specs.Machine.{answer_to, first_of, changes, is_refusal}
use Rattle.command_types.specs.Offers.{answer_at}
use Rattle.command_types.proofs.OfferFacts.{changes_stay}
use Rattle.command_types.specs.Roster.{Rows}
use Rattle.command_types.specs.Sizes.{journal_limit, frame_size}
use Rattle.command_types.specs.Told.{IsRecorded, IsNotRecorded, IsHouse, IsMemory, journal_size}
use Rattle.command_types.specs.Session.{Speaker, Standing, Mark, mark_of, what_or_fault, speaker_after, IsTime, IsAsked, IsReplied, IsAnswered, IsTalk}
use Rattle.proposal_laws.specs.Turns.{Turn, turns}
use Rattle.proposal_laws.specs.Texts.{is_outside, tells_outside, is_proposal, IsPlain, TellsOne, ScriptTextsAreOne}
use Rattle.proposal_laws.proofs.Others.{none_recorded}
use Rattle.proposal_laws.proofs.Positions.{replied_runs, talk_grows, talk_ends}

-- two splits of one list at the same place
one_front : (a b c d : List Entry) → a ++ b ≡ c ++ d → length a ≡ length c → a ≡ c
one_front [] b [] d e n = refl
one_front [] b (y ∷ c) d e n = absurd (omega (arith, n))
one_front (x ∷ a) b [] d e n = absurd (omega (arith, n))
one_front (x ∷ a) b (y ∷ c) d e n = let t : a ++ b ≡ c ++ d = cc in let h : x ≡ y = cc in let r = one_front a b c d t (omega (arith, n)) in λ i. h i ∷ r i

-- ---- one command

refusal_outside : (full before after : Bool) (size n : ℕ) (refusal : Refusal) → first_of ((full, JournalFull size) ∷ (before, Stopped n) ∷ (after, DiskFault) ∷ []) ≡ Some refusal → is_outside refusal ≡ true
refusal_outside true before after size n refusal e = let is : refusal ≡ JournalFull size = cc in ap is_outside is
refusal_outside false true after size n refusal e = let is : refusal ≡ Stopped n = cc in ap is_outside is
refusal_outside false false true size n refusal e = let is : refusal ≡ DiskFault = cc in ap is_outside is
refusal_outside false false false size n refusal e = absurd (cc)

house_outside : (journal : Option JournalFigures) (figures : Figures) (before after : Bool) (s : State) (front : List Entry) (n : ℕ) (ask : Ask) (answer : Answer) → IsHouse journal figures before after s front n ask answer → tells_outside answer ≡ true
house_outside None figures before after s front n ask answer house = absurd house
house_outside (Some journal) figures before after s front n ask answer house =
    ap tells_outside house.same
    ∙ refusal_outside (nat_lt journal_limit (journal_size figures journal front + frame_size ask)) before after (journal_size figures journal front) n house.refusal house.first

clash : (P : Type 0) (t : Bool) → t ≡ false → t ≡ true → P
clash P t p q = absurd (cc)

-- a command behind these changes, whose reply stands there, is answered by the machine behind them
machine_answers : (clock : ℕ → Bool) (figures : Figures) (h : History) (seat : ℕ) (past later : List Entry) (from : Mark) (ask : Ask) (reply : Reply) (made : List Entry) (to : Mark) →
    from.position ≡ h.base.position + length past → h.entries ≡ past ++ later → IsAsked clock figures h seat from ask reply made to → reply.at ≡ from.position + length made → tells_outside reply.answer ≡ false →
    reply.answer ≡ answer_at h.base past ask
machine_answers clock figures h seat past later from ask reply made to begins split a here plain = by_case a.told.one
  where
    entry : Entry
    entry = record { seat = seat; ask = ask }

    behind : (front : List Entry) → front ≡ past → answer_at h.base front ask ≡ answer_at h.base past ask
    behind front same = ap (λ es. answer_at h.base es ask) same

    by_case : IsRecorded h.base.state a.told.front seat ask reply.answer ⊎ IsNotRecorded h.base a.told.front ask reply.answer ⊎ IsHouse figures.journal figures a.before to.stopped h.base.state a.told.front reply.at ask reply.answer ⊎ IsMemory figures ask.what reply.answer →
        reply.answer ≡ answer_at h.base past ask
    by_case (inl r) =
        let one : made ≡ entry ∷ [] = a.keeps ∙ ap (λ t. cond {A = List Entry} t (entry ∷ []) []) r.change in
        let size : length made ≡ 1 = ap length one in
        let front : length a.told.front ≡ length r.before + 1 = ap length r.last ∙ length-append r.before (entry ∷ []) in
        let there : r.before ++ (entry ∷ [] ++ a.told.back) ≡ past ++ later = sym (append_assoc r.before (entry ∷ []) a.told.back) ∙ (ap (λ es. es ++ a.told.back) (sym r.last) ∙ (sym a.told.split ∙ split)) in
        r.same ∙ sym (changes_stay h.base r.before ask.what (answer_to (replayed_from h.base.state r.before) ask) (and_parts (changes ask.what) (not (is_refusal reply.answer)) r.change).0)
        ∙ behind r.before (one_front r.before (entry ∷ [] ++ a.told.back) past later there (omega (arith, begins, here, a.told.place, front, size)))
    by_case (inr (inl r)) =
        let none : made ≡ [] = a.keeps ∙ none_recorded (is_recorded ask.what reply.answer) entry r.no_change in
        let size : length made ≡ 0 = ap length none in
        r.same ∙ behind a.told.front (one_front a.told.front a.told.back past later (sym a.told.split ∙ split) (omega (arith, begins, here, a.told.place, size)))
    by_case (inr (inr (inl house))) = clash _ (tells_outside reply.answer) plain (house_outside figures.journal figures a.before to.stopped h.base.state a.told.front reply.at ask reply.answer house)
    by_case (inr (inr (inr memory))) = clash _ (tells_outside reply.answer) plain (ap tells_outside memory.same)

-- a line that is no PROPOSE has one command
one_asked : (clock : ℕ → Bool) (figures : Figures) (h : History) (seat : ℕ) (from : Mark) (rows : Rows) (speaker : Speaker) (read : Result Line ℕ) (reply : Reply) (made : List Entry) (to : Mark) → is_proposal read ≡ false →
    IsReplied clock figures h seat from rows speaker read reply made to → (moment : ℕ) × IsAsked clock figures h seat from (record { by = speaker.party; what = what_or_fault rows speaker.draft read; moment = moment }) reply made to
one_asked clock figures h seat from rows speaker (Ok (Propose cycle mode)) reply made to none replied = absurd (let bad = none in cc)
one_asked clock figures h seat from rows speaker read reply made to none replied = replied

-- ---- one line

-- a line is replied to as the machine says, behind these changes
record IsStep (clock : ℕ → Bool) (figures : Figures) (h : History) (seat : ℕ) (past : List Entry) (from : Standing) (line head : List ℕ) (first : List Entry) (to : Standing) : Type 0 where
  answer : Answer
  moment : ℕ
  time : IsTime clock moment
  same : answer ≡ answer_at h.base past (record { by = from.speaker.party; what = what_or_fault h.base.state.roster from.speaker.draft (line_within line); moment = moment })
  made : first ≡ recorded seat (record { by = from.speaker.party; what = what_or_fault h.base.state.roster from.speaker.draft (line_within line); moment = moment }) answer
  text : head ≡ reply_text h.base.state.roster (record { at = from.position + length first; answer = answer })
  position : to.position ≡ from.position + length first
  speaker : to.speaker ≡ speaker_after from.speaker (line_within line) answer

-- what is said of lines, each of them plainly
abbrev Says : (ℕ → Bool) → Figures → History → ℕ → Standing → List (List ℕ) → List ℕ → List Entry → Standing → Type 0
Says clock figures h seat from lines text made to = (talk : IsTalk clock figures h seat from lines text made to) × All IsPlain (turns clock figures h seat from lines text made to talk)

module _ (clock : ℕ → Bool) (figures : Figures) (h : History) (seat : ℕ) where
  -- the first of the lines, behind the changes that were made so far
  step : (past later : List Entry) (from : Standing) (line head : List ℕ) (first : List Entry) (next : Standing) → from.position ≡ h.base.position + length past → h.entries ≡ past ++ later →
      (answered : IsAnswered clock figures h seat from line head first next) → answered.reply.at ≡ from.position + length first → is_proposal (line_within line) ≡ false → tells_outside answered.reply.answer ≡ false →
      IsStep clock figures h seat past from line head first next
  step past later from line head first next begins split answered here none plain =
      let one = one_asked clock figures h seat (mark_of from) h.base.state.roster from.speaker (line_within line) answered.reply first (mark_of next) none answered.replied in
      let asked = one.1 in
      let reply : answered.reply ≡ record { at = from.position + length first; answer = answered.reply.answer } = λ i. record { at = here i; answer = answered.reply.answer } in
      record {
        answer = answered.reply.answer;
        moment = one.0;
        time = asked.time;
        same = machine_answers clock figures h seat past later (mark_of from) _ answered.reply first (mark_of next) begins split asked here plain;
        made = asked.keeps;
        text = answered.text ∙ ap (reply_text h.base.state.roster) reply;
        position = asked.position ∙ here;
        speaker = answered.speaker;
      }

  -- in a talk whose changes are all that the history has, a line's reply stands behind its own
  here_in : (from : Standing) (line : List ℕ) (lines : List (List ℕ)) (head more : List ℕ) (made first others : List Entry) (next to : Standing) → made ≡ first ++ others → end_of h ≡ from.position + length made →
      (answered : IsAnswered clock figures h seat from line head first next) → IsTalk clock figures h seat next lines more others to → answered.reply.at ≡ from.position + length first
  here_in from line lines head more made first others next to is_made all answered talk =
      let r = replied_runs clock figures h seat (mark_of from) h.base.state.roster from.speaker (line_within line) answered.reply first (mark_of next) answered.replied in
      let size : length made ≡ length first + length others = ap length is_made ∙ length-append first others in
      let grows = talk_grows clock figures h seat next lines more others to talk in
      let ends = talk_ends clock figures h seat next lines more others to talk r.end in
      omega (arith, r.low, r.high, grows, ends, size, all)

-- ---- two talks

module _ (clock : ℕ → Bool) (one : TellsOne clock) (figures : Figures) (h : History) (seat : ℕ) where
  abbrev after : List Entry → History
  after made = longer h made

  -- the same lines, said twice from one place
  one_by_one : (done : List Entry) (from from' : Standing) (lines : List (List ℕ)) (text text' : List ℕ) (made made' : List Entry) (to to' : Standing) →
      from.position ≡ end_of h + length done → from'.position ≡ from.position → from'.speaker ≡ from.speaker →
      Says clock figures (after (done ++ made)) seat from lines text made to → Says clock figures (after (done ++ made')) seat from' lines text' made' to' → (text ≡ text') × (made ≡ made')
  one_by_one done from from' [] text text' made made' to to' place at speaker ((none, none_made, stays), plain) ((none', none_made', stays'), plain') = (none ∙ sym none', none_made ∙ sym none_made')
  one_by_one done from from' (line ∷ lines) text text' made made' to to' place at speaker
      ((next, head, more, first, others, answered, is_text, is_made, talk), plain) ((next', head', more', first', others', answered', is_text', is_made', talk'), plain') =
      let past = h.entries ++ done in
      let count : length past ≡ length h.entries + length done = length-append h.entries done in
      let size : length (h.entries ++ (done ++ made)) ≡ length past + length made = ap length (sym (append_assoc h.entries done made)) ∙ length-append past made in
      let size' : length (h.entries ++ (done ++ made')) ≡ length past + length made' = ap length (sym (append_assoc h.entries done made')) ∙ length-append past made' in
      let here = here_in clock figures (after (done ++ made)) seat from line lines head more made first others next to is_made (omega (arith, place, count, size)) answered talk in
      let here' = here_in clock figures (after (done ++ made')) seat from' line lines head' more' made' first' others' next' to' is_made' (omega (arith, place, at, count, size')) answered' talk' in
      let turn : Turn clock figures (after (done ++ made)) seat = record { from = from; line = line; text = head; made = first; to = next; answered = answered } in
      let turn' : Turn clock figures (after (done ++ made')) seat = record { from = from'; line = line; text = head'; made = first'; to = next'; answered = answered' } in
      let rest = turns clock figures (after (done ++ made)) seat next lines more others to talk in
      let rest' = turns clock figures (after (done ++ made')) seat next' lines more' others' to' talk' in
      let fine = All-head IsPlain turn rest plain in
      let fine' = All-head IsPlain turn' rest' plain' in
      let a = step clock figures (after (done ++ made)) seat past made from line head first next (omega (arith, place, count)) (sym (append_assoc h.entries done made)) answered here fine.0 fine.1 in
      let b = step clock figures (after (done ++ made')) seat past made' from' line head' first' next' (omega (arith, place, at, count)) (sym (append_assoc h.entries done made')) answered' here' fine'.0 fine'.1 in
      let ask : Speaker → ℕ → Ask = λ s n. record { by = s.party; what = what_or_fault h.base.state.roster s.draft (line_within line); moment = n } in
      let moments : a.moment ≡ b.moment = a.time.same ∙ ap (λ n. min n MOST_MOMENT) (one a.time.now b.time.now a.time.told b.time.told) ∙ sym b.time.same in
      let answers : a.answer ≡ b.answer = a.same ∙ ((λ i. answer_at h.base past (ask (sym speaker i) (moments i))) ∙ sym b.same) in
      let firsts : first ≡ first' = a.made ∙ ((λ i. recorded seat (ask (sym speaker i) (moments i)) (answers i)) ∙ sym b.made) in
      let positions : from.position + length first ≡ from'.position + length first' = λ i. sym at i + length (firsts i) in
      let heads : head ≡ head' = a.text ∙ ((λ i. reply_text h.base.state.roster (record { at = positions i; answer = answers i })) ∙ sym b.text) in
      let next_place : next.position ≡ end_of h + length (done ++ first) = let both = length-append done first in omega (arith, a.position, place, both) in
      let next_at : next'.position ≡ next.position = b.position ∙ (sym positions ∙ sym a.position) in
      let next_speaker : next'.speaker ≡ next.speaker = b.speaker ∙ ((λ i. speaker_after (speaker i) (line_within line) (sym answers i)) ∙ sym a.speaker) in
      let moved : done ++ made ≡ (done ++ first) ++ others = ap (λ es. done ++ es) is_made ∙ sym (append_assoc done first others) in
      let moved' : done ++ made' ≡ (done ++ first) ++ others' = ap (λ es. done ++ es) is_made' ∙ (ap (λ es. done ++ (es ++ others')) (sym firsts) ∙ sym (append_assoc done first others')) in
      let on : Says clock figures (after ((done ++ first) ++ others)) seat next lines more others to =
      subst (λ (es : List Entry). Says clock figures (after es) seat next lines more others to) moved (talk, All-tail IsPlain turn rest plain) in
      let on' : Says clock figures (after ((done ++ first) ++ others')) seat next' lines more' others' to' =
      subst (λ (es : List Entry). Says clock figures (after es) seat next' lines more' others' to') moved' (talk', All-tail IsPlain turn' rest' plain') in
      let ends = one_by_one (done ++ first) next next' lines more more' others others' to to' next_place next_at next_speaker on on' in
      (is_text ∙ ((λ i. heads i ++ ends.0 i) ∙ sym is_text'), is_made ∙ ((λ i. firsts i ++ ends.1 i) ∙ sym is_made'))

pub script_texts_are_one : ScriptTextsAreOne
script_texts_are_one clock one figures h seat from place lines text other a b =
    one_by_one clock one figures h seat [] from from lines text other a.made b.made a.to b.to (omega (arith, place)) refl refl (a.talk, a.plain) (b.talk, b.plain)
