-- How a session goes on by one byte, and ends.
use Rattle.std.proofs.Common.{◌≡◌, ℕ, ◌+◌, ◌≤◌, ◌<◌, ◌==◌, Bool, true, false, List, [], ◌∷◌, ◌++◌, length, take, drop, get_or, Option, Result, Ok, Err, OnErr, arith, refl, sym, subst, ap, ◌∙◌, append_assoc}
use Rattle.std.proofs.lemmas.Bool.Decides.{nat_tests}
use Rattle.std.proofs.lemmas.List.{length-append, append-nil, length-take, take_all, take_more, take-append-drop, take-append-le}
use Rattle.outside.specs.Flow.{Takes, TakesFront}
use Rattle.session.specs.Pending.{Says}
use Rattle.session.proofs.PendingFacts.{says_none, says_flushed, says_both, says_then_flushed, says_whole, says_on, front_on, waiting_on, front_waiting}
use Rattle.command_types.specs.declared.line.Line.{Line}
use Rattle.command_types.specs.declared.answer.Reply.{Reply}
use Rattle.command_types.specs.Roster.{Rows}
use Rattle.command_types.specs.Session.{Speaker, nobody, is_bye, IsReplied, IsAnswered, IsTalk}
use Rattle.command_types.specs.Details.{reply_text}
use Rattle.command_types.specs.Lines.{cut_of, ended_line, lines_of}
use Rattle.command_types.specs.Grammar.{line_within}
use Rattle.command_types.proofs.LineFacts.{cut_byte, cut_line, whole_grows, read_of_front, read_of_ended_front, take_push, none_last, some_last}
use Rattle.command_types.proofs.TalkFacts.{talk_on}
use Rattle.session.specs.declared.taking.Step.{Step}
use Rattle.session.specs.Serving.{Seat, Sight, mark, standing, roster_of, AnswersRead, Answers, Left, CutOff, Written}
use Rattle.session.specs.Standing.{Stand, RepliesWhole, RepliesInPart, Served}
use Rattle.session.proofs.GrowthFacts.{grows_none, grows_both, same_roster}
use Rattle.session.proofs.WithinFacts.{talk_there, within_more, within_still, within_none}

-- the text of a reply over this desk's roster
abbrev text_of : Sight → Reply → List ℕ
text_of desk reply = reply_text (roster_of desk) reply

-- an answer is an answer to the line
line_answered : {clock : ℕ → Bool} (start : Seat) (old new : Sight) (before after : Speaker) (line : List ℕ) (reply : Reply) → old.seat ≡ start → (a : Answers clock old new before after line reply) →
    IsAnswered clock start.figures new.history start.number (standing old before false) line (text_of old reply) a.made (standing new after (is_bye reply.answer))
line_answered {clock} start old new before after line reply seat a =
    let rows : roster_of old ≡ roster_of new = sym (same_roster old new a.made a.grows) in
    let R : Rows → Type 0 = λ r. IsReplied clock start.figures new.history start.number (mark old) r before (line_within line) reply a.made (mark new) in
    let F : Seat → Type 0 = λ s. IsReplied clock s.figures new.history s.number (mark old) (roster_of old) before (line_within line) reply a.made (mark new) in
    record {
      reply = reply;
      open_yet = refl;
      replied = subst R rows (subst F seat a.replied);
      text = ap (λ r. reply_text r reply) rows;
      speaker = a.speaker;
      over = refl;
    }

-- a line of the same command as another
pub read_alike : {clock : ℕ → Bool} (old new : Sight) (before after : Speaker) (a b : List ℕ) (reply : Reply) → line_within a ≡ line_within b → Answers clock old new before after a reply → Answers clock old new before after b reply
read_alike {clock} old new before after a b reply e r = let P : Result Line ℕ → Type 0 = λ l. AnswersRead clock old new before after l reply in subst P e r

-- a byte that ends no line
pub served_byte : {clock : ℕ → Bool} (start : Sight) (ahead : List (List ℕ)) (begun taken : Option (List ℕ)) (stand : Stand) (kept next bytes : List ℕ) (b : ℕ) →
    Served clock start ahead begun taken stand kept bytes → (b == 10) ≡ false → next ≡ take 4097 (kept ++ b ∷ []) → Served clock start ahead begun taken stand next (bytes ++ b ∷ [])
served_byte {clock} start ahead begun taken stand kept next bytes b v other is =
    let same = cut_byte bytes b other in
    let P : List (List ℕ) → Type 0 = λ lines. IsTalk clock start.seat.figures stand.sight.history start.seat.number (standing start nobody false) lines v.text v.made (standing stand.sight stand.speaker false) in
    record {
      text = v.text;
      made = v.made;
      grows = v.grows;
      said = v.said;
      whole = v.whole;
      talk = subst P (sym (ap (λ c. c.whole) same)) v.talk;
      line = is ∙ ap (λ k. take 4097 (k ++ b ∷ [])) v.line ∙ take_push 4097 (cut_of bytes).rest b ∙ ap (λ c. take 4097 c.rest) (sym same);
    }

-- a line that was ended, from what is kept of it
ended_front : (kept rest : List ℕ) → kept ≡ take 4097 rest → line_within (ended_line kept) ≡ line_within (ended_line rest)
ended_front kept rest is = ap (λ k. line_within (ended_line k)) is ∙ read_of_ended_front rest

-- where nothing waits, the replies to all whole lines were written whole
pub whole_all : {clock : ℕ → Bool} (start : Sight) (ahead : List (List ℕ)) (begun taken : Option (List ℕ)) (stand : Stand) (kept bytes : List ℕ) →
    Served clock start ahead begun taken stand kept bytes → stand.waits ≡ [] → Served clock start (cut_of bytes).whole begun taken stand kept bytes
whole_all start ahead begun taken stand kept bytes v none =
    let all : v.text ≡ v.said.written = v.said.order ∙ ap (λ w. v.said.written ++ w) none ∙ append-nil v.said.written in
    let size : length v.text ≡ length v.said.written = ap length all in
    record {
      text = v.text;
      made = v.made;
      grows = v.grows;
      said = v.said;
      whole = record { front = v.text; back = []; order = sym (append-nil v.text); within = omega (arith, size); made = v.made; to = standing stand.sight stand.speaker false; talk = v.talk };
      talk = v.talk;
      line = v.line;
    }

-- a last line, from what is kept of it
last_front : (kept rest : List ℕ) → kept ≡ take 4097 rest → line_within kept ≡ line_within rest
last_front kept rest is = ap line_within is ∙ read_of_front rest

-- the lines with one more, which was replied to
talk_with : {clock : ℕ → Bool} (start : Sight) (ahead : List (List ℕ)) (begun taken : Option (List ℕ)) (old new : Stand) (kept bytes line : List ℕ) (reply : Reply) →
    (v : Served clock start ahead begun taken old kept bytes) → (a : Answers clock old.sight new.sight old.speaker new.speaker line reply) →
    IsTalk clock start.seat.figures new.sight.history start.seat.number (standing start nobody false) ((cut_of bytes).whole ++ line ∷ []) (v.text ++ text_of old.sight reply) (v.made ++ a.made) (standing new.sight new.speaker (is_bye reply.answer))
talk_with {clock} start ahead begun taken old new kept bytes line reply v a =
    talk_on clock start.seat.figures new.sight.history start.seat.number (standing start nobody false) (cut_of bytes).whole v.text v.made (standing old.sight old.speaker false) line (text_of old.sight reply) a.made (standing new.sight new.speaker (is_bye reply.answer))
    (talk_there clock start old.sight new.sight a.made (cut_of bytes).whole v.text v.made (standing old.sight old.speaker false) a.grows v.talk)
    (line_answered start.seat old.sight new.sight old.speaker new.speaker line reply v.grows.seat a)

-- these lines are written, with one more
written_with : {clock : ℕ → Bool} (start : Sight) (ahead : List (List ℕ)) (begun taken taken' : Option (List ℕ)) (old new : Stand) (kept bytes line : List ℕ) (reply : Reply) (lines : List (List ℕ)) →
    (v : Served clock start ahead begun taken old kept bytes) → Answers clock old.sight new.sight old.speaker new.speaker line reply → Says taken taken' old.waits new.waits (text_of old.sight reply) → new.waits ≡ [] → lines ≡ (cut_of bytes).whole ++ line ∷ [] →
    Written clock start begun taken' new.sight lines
written_with {clock} start ahead begun taken taken' old new kept bytes line reply lines v a says none order =
    let P : List (List ℕ) → Type 0 = λ ls. IsTalk clock start.seat.figures new.sight.history start.seat.number (standing start nobody false) ls (v.text ++ text_of old.sight reply) (v.made ++ a.made) (standing new.sight new.speaker (is_bye reply.answer)) in
    record {
      text = v.text ++ text_of old.sight reply;
      made = v.made ++ a.made;
      to = standing new.sight new.speaker (is_bye reply.answer);
      there = refl;
      grows = grows_both start old.sight new.sight v.made a.made v.grows a.grows;
      took = says_whole begun taken' [] new.waits (v.text ++ text_of old.sight reply) none (says_both begun taken taken' [] old.waits new.waits v.text (text_of old.sight reply) v.said says);
      talk = subst P (sym order) (talk_with start ahead begun taken old new kept bytes line reply v a);
    }

-- a line feed after which the session goes on
pub served_line : {clock : ℕ → Bool} (start : Sight) (ahead : List (List ℕ)) (begun taken taken' : Option (List ℕ)) (old new : Stand) (kept next bytes : List ℕ) (b : ℕ) (reply : Reply) →
    Served clock start ahead begun taken old kept bytes → (b == 10) ≡ true → next ≡ [] → Answers clock old.sight new.sight old.speaker new.speaker (ended_line kept) reply → Says taken taken' old.waits new.waits (text_of old.sight reply) → is_bye reply.answer ≡ false →
    Served clock start ahead begun taken' new next (bytes ++ b ∷ [])
served_line {clock} start ahead begun taken taken' old new kept next bytes b reply v feed is answered says stays =
    let same = cut_line bytes b feed in
    let line = ended_line (cut_of bytes).rest in
    let a = read_alike old.sight new.sight old.speaker new.speaker (ended_line kept) line reply (ended_front kept (cut_of bytes).rest v.line) answered in
    let P : List (List ℕ) → Type 0 = λ lines. IsTalk clock start.seat.figures new.sight.history start.seat.number (standing start nobody false) lines (v.text ++ text_of old.sight reply) (v.made ++ a.made) (standing new.sight new.speaker false) in
    let Q : Bool → Type 0 = λ over. IsTalk clock start.seat.figures new.sight.history start.seat.number (standing start nobody false) ((cut_of bytes).whole ++ line ∷ []) (v.text ++ text_of old.sight reply) (v.made ++ a.made) (standing new.sight new.speaker over) in
    let both = says_on begun taken taken' [] old.waits new.waits v.text (text_of old.sight reply) v.said says in
    record {
      text = v.text ++ text_of old.sight reply;
      made = v.made ++ a.made;
      grows = grows_both start old.sight new.sight v.made a.made v.grows a.grows;
      said = both.0;
      whole = within_more start old.sight new.sight a.made ahead v.text (text_of old.sight reply) (length v.said.written) (length both.0.written) a.grows both.1 v.whole;
      talk = subst P (sym (ap (λ c. c.whole) same)) (subst Q stays (talk_with start ahead begun taken old new kept bytes line reply v a));
      line = is ∙ ap (λ c. take 4097 c.rest) (sym same);
    }

-- a line feed after which the session is over
pub left_line : {clock : ℕ → Bool} (start : Sight) (ahead : List (List ℕ)) (begun taken taken' : Option (List ℕ)) (old new : Stand) (kept bytes : List ℕ) (b : ℕ) (reply : Reply) →
    Served clock start ahead begun taken old kept bytes → (b == 10) ≡ true → Answers clock old.sight new.sight old.speaker new.speaker (ended_line kept) reply → Says taken taken' old.waits new.waits (text_of old.sight reply) → new.waits ≡ [] → is_bye reply.answer ≡ true →
    Left clock start begun taken' new.sight (cut_of (bytes ++ b ∷ [])).whole
unfolding written_with
left_line start ahead begun taken taken' old new kept bytes b reply v feed answered says none bye =
    let line = ended_line (cut_of bytes).rest in
    let a = read_alike old.sight new.sight old.speaker new.speaker (ended_line kept) line reply (ended_front kept (cut_of bytes).rest v.line) answered in
    record {
      said = (cut_of bytes).whole ++ line ∷ [];
      others = [];
      order = ap (λ c. c.whole) (cut_line bytes b feed) ∙ sym (append-nil _);
      written = written_with start ahead begun taken taken' old new kept bytes line reply _ v a says none refl;
      over = bye;
    }

-- a front of the lines up to a BYE is one of more lines
pub left_more : {clock : ℕ → Bool} (start : Sight) (begun taken : Option (List ℕ)) (now : Sight) (xs ys : List ℕ) → Left clock start begun taken now (cut_of xs).whole → Left clock start begun taken now (cut_of (xs ++ ys)).whole
left_more start begun taken now xs ys v =
    let more = whole_grows xs ys in
    record {
      said = v.said;
      others = v.others ++ more.0;
      order = more.1 ∙ ap (λ w. w ++ more.0) v.order ∙ append_assoc v.said v.others more.0;
      written = v.written;
      over = v.over;
    }

-- a reply that is not written whole
cut_off_at : {clock : ℕ → Bool} (start : Sight) (ahead : List (List ℕ)) (begun taken taken' : Option (List ℕ)) (old new : Stand) (kept bytes line : List ℕ) (reply : Reply) (lines : List (List ℕ)) →
    Served clock start ahead begun taken old kept bytes → Answers clock old.sight new.sight old.speaker new.speaker line reply → TakesFront taken taken' (old.waits ++ text_of old.sight reply) → lines ≡ (cut_of bytes).whole ++ line ∷ [] →
    CutOff clock start ahead begun taken' new.sight lines
cut_off_at start ahead begun taken taken' old new kept bytes line reply lines v a front order =
    let cut = front_on begun taken taken' [] old.waits v.text (text_of old.sight reply) v.said front in
    record {
      said = (cut_of bytes).whole ++ line ∷ [];
      others = [];
      order = order ∙ sym (append-nil _);
      text = v.text ++ text_of old.sight reply;
      made = v.made ++ a.made;
      to = standing new.sight new.speaker (is_bye reply.answer);
      there = refl;
      grows = grows_both start old.sight new.sight v.made a.made v.grows a.grows;
      took = cut.0;
      whole = within_more start old.sight new.sight a.made ahead v.text (text_of old.sight reply) (length v.said.written) cut.0.0 a.grows cut.1 v.whole;
      talk = talk_with start ahead begun taken old new kept bytes line reply v a;
    }

-- a line feed whose reply is not written whole
pub cut_off_line : {clock : ℕ → Bool} (start : Sight) (ahead : List (List ℕ)) (begun taken taken' : Option (List ℕ)) (old new : Stand) (kept bytes : List ℕ) (b : ℕ) →
    Served clock start ahead begun taken old kept bytes → (b == 10) ≡ true → RepliesInPart clock old new (ended_line kept) taken taken' →
    CutOff clock start ahead begun taken' new.sight (cut_of (bytes ++ b ∷ [])).whole
cut_off_line start ahead begun taken taken' old new kept bytes b v feed r =
    let line = ended_line (cut_of bytes).rest in
    let a = read_alike old.sight new.sight old.speaker new.speaker (ended_line kept) line r.reply (ended_front kept (cut_of bytes).rest v.line) r.answers in
    cut_off_at start ahead begun taken taken' old new kept bytes line r.reply _ v a r.took (ap (λ c. c.whole) (cut_line bytes b feed))

-- what waits is not written whole
pub cut_off_waiting : {clock : ℕ → Bool} (start : Sight) (ahead : List (List ℕ)) (begun taken taken' : Option (List ℕ)) (stand : Stand) (kept bytes : List ℕ) →
    Served clock start ahead begun taken stand kept bytes → TakesFront taken taken' stand.waits → CutOff clock start ahead begun taken' stand.sight (cut_of bytes).whole
cut_off_waiting start ahead begun taken taken' stand kept bytes v front =
    let cut = waiting_on begun taken taken' [] stand.waits v.text v.said front in
    record {
      said = (cut_of bytes).whole;
      others = [];
      order = sym (append-nil _);
      text = v.text;
      made = v.made;
      to = standing stand.sight stand.speaker false;
      there = refl;
      grows = v.grows;
      took = cut.0;
      whole = within_still start stand.sight ahead v.text (length v.said.written) cut.0.0 cut.1 v.whole;
      talk = v.talk;
    }

-- some of what waited is written, or all of it
pub served_flushed : {clock : ℕ → Bool} (start : Sight) (ahead : List (List ℕ)) (begun taken taken' : Option (List ℕ)) (stand : Stand) (waits' kept bytes : List ℕ) →
    Says taken taken' stand.waits waits' [] → Served clock start ahead begun taken stand kept bytes → Served clock start ahead begun taken' (record stand { waits = waits' }) kept bytes
served_flushed start ahead begun taken taken' stand waits' kept bytes says v =
    let P : List ℕ → Type 0 = λ text. (s : Says begun taken' [] waits' text) × (length v.said.written ≤ length s.written) in
    let both = subst P (append-nil v.text) (says_on begun taken taken' [] stand.waits waits' v.text [] v.said says) in
    record {
      text = v.text;
      made = v.made;
      grows = v.grows;
      said = both.0;
      whole = within_still start stand.sight ahead v.text (length v.said.written) (length both.0.written) both.1 v.whole;
      talk = v.talk;
      line = v.line;
    }

-- before the first byte of a piece
pub served_begun : {clock : ℕ → Bool} (start : Sight) (ahead : List (List ℕ)) (begun taken : Option (List ℕ)) (stand : Stand) (kept bytes : List ℕ) →
    Served clock start ahead begun taken stand kept bytes → Served clock start ahead begun taken stand kept (bytes ++ [])
served_begun {clock} start ahead begun taken stand kept bytes v = let P : List ℕ → Type 0 = λ bs. Served clock start ahead begun taken stand kept bs in subst P (sym (append-nil bytes)) v

-- a whole piece, whose replies are written
pub served_piece : {clock : ℕ → Bool} (start : Sight) (ahead : List (List ℕ)) (begun taken taken' : Option (List ℕ)) (stand : Stand) (waits' kept bytes p : List ℕ) (i : ℕ) →
    length p ≤ i → Takes taken taken' stand.waits → waits' ≡ [] → Served clock start ahead begun taken stand kept (bytes ++ take i p) → Served clock start ahead begun taken' (record stand { waits = waits' }) kept (bytes ++ p)
served_piece {clock} start ahead begun taken taken' stand waits' kept bytes p i past took none v =
    let P : List ℕ → Type 0 = λ bs. Served clock start ahead begun taken' (record stand { waits = waits' }) kept (bytes ++ bs) in
    subst P (take_all i p past) (served_flushed start ahead begun taken taken' stand waits' kept (bytes ++ take i p) (says_flushed taken taken' stand.waits waits' took none) v)

-- a whole piece, whose replies are not written whole
pub cut_off_piece : {clock : ℕ → Bool} (start : Sight) (ahead : List (List ℕ)) (begun taken taken' : Option (List ℕ)) (stand : Stand) (kept bytes p : List ℕ) (i : ℕ) →
    length p ≤ i → TakesFront taken taken' stand.waits → Served clock start ahead begun taken stand kept (bytes ++ take i p) → CutOff clock start ahead begun taken' stand.sight (cut_of (bytes ++ p)).whole
cut_off_piece {clock} start ahead begun taken taken' stand kept bytes p i past front v =
    let P : List ℕ → Type 0 = λ bs. CutOff clock start ahead begun taken' stand.sight (cut_of (bytes ++ bs)).whole in
    subst P (take_all i p past) (cut_off_waiting start ahead begun taken taken' stand kept (bytes ++ take i p) v front)

-- a front of the lines is a front of more lines
cut_off_by : {clock : ℕ → Bool} (start : Sight) (ahead : List (List ℕ)) (begun taken : Option (List ℕ)) (now : Sight) (lines more all : List (List ℕ)) → all ≡ lines ++ more → CutOff clock start ahead begun taken now lines → CutOff clock start ahead begun taken now all
cut_off_by start ahead begun taken now lines more all is v = record {
  said = v.said;
  others = v.others ++ more;
  order = is ∙ ap (λ w. w ++ more) v.order ∙ append_assoc v.said v.others more;
  text = v.text;
  made = v.made;
  to = v.to;
  there = v.there;
  grows = v.grows;
  took = v.took;
  whole = v.whole;
  talk = v.talk;
}

-- a front of the lines is a front of the lines of more bytes
pub cut_off_more : {clock : ℕ → Bool} (start : Sight) (ahead : List (List ℕ)) (begun taken : Option (List ℕ)) (now : Sight) (xs ys : List ℕ) → CutOff clock start ahead begun taken now (cut_of xs).whole → CutOff clock start ahead begun taken now (cut_of (xs ++ ys)).whole
cut_off_more start ahead begun taken now xs ys v =
    let more = whole_grows xs ys in
    cut_off_by start ahead begun taken now (cut_of xs).whole more.0 (cut_of (xs ++ ys)).whole more.1 v

-- what was taken of a piece, with its next byte
pub piece_next : (bytes p : List ℕ) (i : ℕ) → i < length p → (bytes ++ take i p) ++ get_or p i 0 ∷ [] ≡ bytes ++ take (i + 1) p
piece_next bytes p i lt = append_assoc bytes (take i p) (get_or p i 0 ∷ []) ∙ ap (λ v. bytes ++ v) (sym (take_more p i 0 lt))

-- a piece is what was taken of it, and the rest
pub piece_rest : (bytes p : List ℕ) (i : ℕ) → i < length p → ((bytes ++ take i p) ++ get_or p i 0 ∷ []) ++ drop (i + 1) p ≡ bytes ++ p
piece_rest bytes p i lt =
    ap (λ v. v ++ drop (i + 1) p) (piece_next bytes p i lt)
    ∙ append_assoc bytes (take (i + 1) p) (drop (i + 1) p) ∙ ap (λ v. bytes ++ v) (take-append-drop (i + 1) p)

-- an input that ended, where no begun line is left
pub written_none : {clock : ℕ → Bool} (start : Sight) (ahead : List (List ℕ)) (begun taken : Option (List ℕ)) (stand : Stand) (kept bytes : List ℕ) →
    Served clock start ahead begun taken stand kept bytes → stand.waits ≡ [] → kept ≡ [] → Written clock start begun taken stand.sight (lines_of bytes)
written_none {clock} start ahead begun taken stand kept bytes v none empty =
    let all : lines_of bytes ≡ (cut_of bytes).whole = ap (λ l. (cut_of bytes).whole ++ l) (none_last (cut_of bytes).rest (sym v.line ∙ empty)) ∙ append-nil (cut_of bytes).whole in
    let P : List (List ℕ) → Type 0 = λ lines. IsTalk clock start.seat.figures stand.sight.history start.seat.number (standing start nobody false) lines v.text v.made (standing stand.sight stand.speaker false) in
    record { text = v.text; made = v.made; to = standing stand.sight stand.speaker false; there = refl; grows = v.grows; took = says_whole begun taken [] stand.waits v.text none v.said; talk = subst P (sym all) v.talk }

-- the whole lines so far, without a BYE among them
pub whole_open : {clock : ℕ → Bool} (start : Sight) (ahead : List (List ℕ)) (begun taken : Option (List ℕ)) (stand : Stand) (kept bytes : List ℕ) →
    Served clock start ahead begun taken stand kept bytes → stand.waits ≡ [] → (written : Written clock start begun taken stand.sight (cut_of bytes).whole) × (written.to.over ≡ false)
whole_open start ahead begun taken stand kept bytes v none =
    (record { text = v.text; made = v.made; to = standing stand.sight stand.speaker false; there = refl; grows = v.grows; took = says_whole begun taken [] stand.waits v.text none v.said; talk = v.talk }, refl)

all_lines : (bytes kept : List ℕ) → kept ≡ take 4097 (cut_of bytes).rest → (kept ≡ [] → ⊥) → lines_of bytes ≡ (cut_of bytes).whole ++ (cut_of bytes).rest ∷ []
all_lines bytes kept is some = ap (λ l. (cut_of bytes).whole ++ l) (some_last (cut_of bytes).rest (λ e. some (is ∙ e)))

-- and where one is left, which is replied to
pub written_last : {clock : ℕ → Bool} (start : Sight) (ahead : List (List ℕ)) (begun taken between taken' : Option (List ℕ)) (old new : Stand) (kept bytes : List ℕ) (step : Step) →
    Served clock start ahead begun taken old kept bytes → (kept ≡ [] → ⊥) → RepliesWhole clock old new kept taken between step → Takes between taken' new.waits →
    Written clock start begun taken' new.sight (lines_of bytes)
written_last start ahead begun taken between taken' old new kept bytes step v some r took =
    let a = read_alike old.sight new.sight old.speaker new.speaker kept (cut_of bytes).rest r.reply (last_front kept (cut_of bytes).rest v.line) r.answers in
    let said = says_then_flushed taken between taken' old.waits new.waits (text_of old.sight r.reply) r.said took in
    written_with start ahead begun taken taken' old (record new { waits = [] }) kept bytes (cut_of bytes).rest r.reply (lines_of bytes) v a said refl (all_lines bytes kept v.line some)

pub cut_off_last : {clock : ℕ → Bool} (start : Sight) (ahead : List (List ℕ)) (begun taken taken' : Option (List ℕ)) (old new : Stand) (kept bytes : List ℕ) →
    Served clock start ahead begun taken old kept bytes → (kept ≡ [] → ⊥) → RepliesInPart clock old new kept taken taken' →
    CutOff clock start ahead begun taken' new.sight (lines_of bytes)
cut_off_last start ahead begun taken taken' old new kept bytes v some r =
    let a = read_alike old.sight new.sight old.speaker new.speaker kept (cut_of bytes).rest r.reply (last_front kept (cut_of bytes).rest v.line) r.answers in
    cut_off_at start ahead begun taken taken' old new kept bytes (cut_of bytes).rest r.reply (lines_of bytes) v a r.took (all_lines bytes kept v.line some)

-- a reply that waits and is not written whole
pub part_of_whole : {clock : ℕ → Bool} (taken between taken' : Option (List ℕ)) (old new : Stand) (line : List ℕ) (step : Step) →
    RepliesWhole clock old new line taken between step → TakesFront between taken' new.waits → RepliesInPart clock old new line taken taken'
part_of_whole taken between taken' old new line step r front = record {
  reply = r.reply;
  answers = r.answers;
  took = front_waiting taken between taken' old.waits new.waits (text_of old.sight r.reply) r.said front;
}

-- nothing is served yet
pub served_none : {clock : ℕ → Bool} (begun : Option (List ℕ)) (stand : Stand) (kept : List ℕ) → stand.speaker ≡ nobody → stand.waits ≡ [] → kept ≡ [] → Served clock stand.sight [] begun begun stand kept []
served_none {clock} begun stand kept first none empty =
    let begins : Served clock stand.sight [] begun begun (record { sight = stand.sight; speaker = nobody; waits = [] }) kept [] = record {
      text = [];
      made = [];
      grows = grows_none stand.sight;
      said = says_none begun [];
      whole = within_none stand.sight _;
      talk = (refl, refl, refl);
      line = empty;
    } in
    let P : Speaker × List ℕ → Type 0 = λ x. Served clock stand.sight [] begun begun (record { sight = stand.sight; speaker = x.0; waits = x.1 }) kept [] in
    subst P (λ i. (sym first i, sym none i)) begins

-- the byte is a line feed, or not
pub is_feed : (b : ℕ) → b ≡ 10 → (b == 10) ≡ true
is_feed b e = grind (arith, nat_tests)

pub not_feed : (b : ℕ) → (b ≡ 10 → ⊥) → (b == 10) ≡ false
not_feed b e = grind (arith, nat_tests)

-- an answer at the exit of a `?`
pub at_error : {T E P : Type 0} (r : Result T E) → P → OnErr r P
at_error (Ok x) p = tt
at_error (Err e) p = p

pub is_empty : (xs : List ℕ) → (length xs == 0) ≡ true → xs ≡ []
is_empty [] e = refl
is_empty (x ∷ xs) e = absurd (let zero_length : length (x ∷ xs) ≡ 0 = grind (arith, nat_tests) in let never : ⊥ = omega arith in never)

pub not_empty : (xs : List ℕ) → (length xs == 0) ≡ false → xs ≡ [] → ⊥
not_empty xs isnt e = let yes_empty : (length xs == 0) ≡ true = ap (λ v. length v == 0) e in let bad : true ≡ false = sym yes_empty ∙ isnt in cc bad

-- the front of what was read, in the buffer that it was read into
pub front_read : (into others : List ℕ) (n : ℕ) → n ≤ length into → take n (into ++ others) ≡ take n into
front_read into others n le = take-append-le n into others le

pub length_read : (bytes into : List ℕ) (n m : ℕ) → length bytes ≡ m → n ≤ length into → length (bytes ++ take n into) ≡ m + n
length_read bytes into n m e le = omega (arith, length-append bytes (take n into), length-take n into)
