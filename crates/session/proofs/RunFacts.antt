-- A run, and how a session goes on by it.
use Rattle.std.proofs.Common.{◌≡◌, ℕ, ◌==◌, Bool, true, false, All, List, [], ◌∷◌, ◌++◌, take, drop, Option, refl, sym, subst, ap, ◌∙◌, append_assoc, zero, suc}
use Rattle.std.proofs.lemmas.List.{append-nil}
use Rattle.std.proofs.lemmas.List.Elements.{All-nil, All-cons, All-head, All-tail}
use Rattle.outside.specs.Flow.{TakesFront}
use Rattle.command_types.specs.declared.ask.Ask.{Ask}
use Rattle.command_types.specs.declared.ask.Entry.{Entry}
use Rattle.command_types.specs.declared.answer.Reply.{Reply}
use Rattle.command_types.specs.Details.{reply_text}
use Rattle.command_types.specs.History.{recorded}
use Rattle.command_types.specs.Grammar.{line_within}
use Rattle.command_types.specs.Lines.{cut_of, ended_line}
use Rattle.command_types.specs.Roster.{Rows}
use Rattle.command_types.specs.Session.{Speaker, IsTime}
use Rattle.command_types.proofs.LineFacts.{read_of_ended_front, take_push}
use Rattle.session.specs.Pending.{Says}
use Rattle.session.specs.Given.{IsGiven, IsRight}
use Rattle.session.specs.Runs.{AsksAll, HasNoFeed, IsCommandOf, IsRun, replies_text}
use Rattle.session.specs.Serving.{Seat, Sight, mark, roster_of, Grows, Asks, Answers, Left, CutOff}
use Rattle.session.specs.Standing.{Stand, Served, GoesOn, IsLeft, IsCut}
use Rattle.session.proofs.GrowthFacts.{same_roster, grows_none, grows_both, asked_there}
use Rattle.session.proofs.PlainFacts.{is_plain, runs_one, plain_told, plain_speaker, plain_stays}
use Rattle.session.proofs.ReplyFacts.{answers_one}
use Rattle.session.proofs.ServedFacts.{read_alike, served_byte, served_line, served_flushed, cut_off_waiting, cut_off_more, left_more}
use Rattle.session.proofs.StreamFacts.{takes_none}

-- ---- bytes that end no line, and a line

served_bytes_on : (clock : ℕ → Bool) (start : Sight) (ahead : List (List ℕ)) (begun taken : Option (List ℕ)) (stand : Stand) (so_far line bytes : List ℕ) →
    Served clock start ahead begun taken stand (take 4097 so_far) bytes → HasNoFeed line → Served clock start ahead begun taken stand (take 4097 (so_far ++ line)) (bytes ++ line)
served_bytes_on clock start ahead begun taken stand so_far [] bytes v none =
    let P : List ℕ → List ℕ → Type 0 = λ kept bs. Served clock start ahead begun taken stand (take 4097 kept) bs in
    subst (λ kept. P kept (bytes ++ [])) (sym (append-nil so_far)) (subst (P so_far) (sym (append-nil bytes)) v)
served_bytes_on clock start ahead begun taken stand so_far (b ∷ line) bytes v none =
    let P : List ℕ → List ℕ → Type 0 = λ kept bs. Served clock start ahead begun taken stand (take 4097 kept) bs in
    let next = served_byte start ahead begun taken stand (take 4097 so_far) (take 4097 (so_far ++ b ∷ [])) bytes b v (All-head (λ byte. (byte == 10) ≡ false) b line none) (sym (take_push 4097 so_far b)) in
    let rest = served_bytes_on clock start ahead begun taken stand (so_far ++ b ∷ []) line (bytes ++ b ∷ []) next (All-tail (λ byte. (byte == 10) ≡ false) b line none) in
    subst (λ kept. P kept (bytes ++ b ∷ line)) (append_assoc so_far (b ∷ []) line) (subst (P ((so_far ++ b ∷ []) ++ line)) (append_assoc bytes (b ∷ []) line) rest)

-- a line is answered as what its command asks
answers_run : (clock : ℕ → Bool) (old new : Sight) (seat : ℕ) (speaker : Speaker) (line : List ℕ) (command : Entry) (reply : Reply) → IsCommandOf clock (roster_of old) seat speaker line command → Asks clock old new command.ask reply →
    Answers clock old new speaker speaker (ended_line line) reply × (is_plain reply.answer ≡ true)
answers_run clock old new seat speaker line command reply of a =
    let read = line_within (ended_line line) in
    let P : Ask → Type 0 = λ k. Asks clock old new k reply in
    let b = subst P of.same a in
    let plain = plain_told old.seat.figures b.asked.before new.stopped new.history old.seat.number (roster_of old) speaker read command.ask.moment reply of.runs b.asked.told in
    (answers_one old new speaker speaker read command.ask reply (runs_one read of.runs) of.same a (plain_speaker speaker read reply.answer plain), plain)

-- a text more that waits
says_more : (taken : Option (List ℕ)) (waits text : List ℕ) → Says taken taken waits (waits ++ text) text
says_more taken waits text = record { written = []; took = takes_none taken; order = refl }

-- a session that sees this, with who speaks and what waits
abbrev standing_at : Sight → Speaker → List ℕ → Stand
standing_at sight speaker waits = record { sight = sight; speaker = speaker; waits = waits }

-- the lines of a run, whose replies wait
pub served_run : (clock : ℕ → Bool) (start : Sight) (ahead : List (List ℕ)) (begun taken : Option (List ℕ)) (old new : Sight) (seat : ℕ) (speaker : Speaker) (waits bytes run : List ℕ) (commands : List Entry) (replies : List Reply) →
    Served clock start ahead begun taken (standing_at old speaker waits) [] bytes → IsRun clock (roster_of old) seat speaker run commands → AsksAll clock old new commands replies →
    Served clock start ahead begun taken (standing_at new speaker (waits ++ replies_text (roster_of old) replies)) [] (bytes ++ run)
served_run clock start ahead begun taken old new seat speaker waits bytes run [] [] v is same =
    let P : Sight → List ℕ → List ℕ → Type 0 = λ s w b. Served clock start ahead begun taken (standing_at s speaker w) [] b in
    subst (λ s. P s (waits ++ []) (bytes ++ run)) (sym same)
    (subst (λ w. P old w (bytes ++ run)) (sym (append-nil waits)) (subst (P old waits) (sym (ap (λ r. bytes ++ r) is ∙ append-nil bytes)) v))
served_run clock start ahead begun taken old new seat speaker waits bytes run [] (reply ∷ replies) v is asks = absurd asks
served_run clock start ahead begun taken old new seat speaker waits bytes run (command ∷ commands) [] v is asks = absurd asks
served_run clock start ahead begun taken old new seat speaker waits bytes run (command ∷ commands) (reply ∷ replies) v (line, others, is, none, of, more) (mid, first, rest) =
    let text = reply_text (roster_of old) reply in
    let read = served_bytes_on clock start ahead begun taken (standing_at old speaker waits) [] line bytes v none in
    let answered = answers_run clock old mid seat speaker line command reply of first in
    let alike = read_alike old mid speaker speaker (ended_line line) (ended_line (take 4097 line)) reply (sym (read_of_ended_front line)) answered.0 in
    let next = served_line start ahead begun taken taken (standing_at old speaker waits) (standing_at mid speaker (waits ++ text)) (take 4097 line) [] (bytes ++ line) 10 reply read refl refl alike (says_more taken waits text) (plain_stays reply.answer answered.1) in
    let roster : roster_of mid ≡ roster_of old = same_roster old mid (recorded old.seat.number command.ask reply.answer) first.grows in
    let here : IsRun clock (roster_of mid) seat speaker others commands = subst (λ rows. IsRun clock rows seat speaker others commands) (sym roster) more in
    let last = served_run clock start ahead begun taken mid new seat speaker (waits ++ text) ((bytes ++ line) ++ 10 ∷ []) others commands replies next here rest in
    let P : List ℕ → List ℕ → Type 0 = λ w b. Served clock start ahead begun taken (standing_at new speaker w) [] b in
    let texts : (waits ++ text) ++ replies_text (roster_of mid) replies ≡ waits ++ (text ++ replies_text (roster_of old) replies) =
    ap (λ rows. (waits ++ text) ++ replies_text rows replies) roster ∙ append_assoc waits text (replies_text (roster_of old) replies) in
    let all : ((bytes ++ line) ++ 10 ∷ []) ++ others ≡ bytes ++ run =
    append_assoc (bytes ++ line) (10 ∷ []) others ∙ append_assoc bytes line (10 ∷ others) ∙ ap (λ r. bytes ++ r) (sym is) in
    subst (λ w. P w (bytes ++ run)) texts (subst (P ((waits ++ text) ++ replies_text (roster_of mid) replies)) all last)

-- ---- a run that was asked, and its replies

-- a session goes on by a run whose replies were said
pub goes_run : (clock : ℕ → Bool) (old new : Stand) (seat : ℕ) (taken taken' : Option (List ℕ)) (run : List ℕ) (commands : List Entry) (replies : List Reply) → new.speaker ≡ old.speaker →
    IsRun clock (roster_of old.sight) seat old.speaker run commands → AsksAll clock old.sight new.sight commands replies → Says taken taken' old.waits new.waits (replies_text (roster_of old.sight) replies) → GoesOn clock old new [] [] taken taken' run
goes_run clock old new seat taken taken' run commands replies same is asks said = λ start ahead begun bytes v.
    let text = replies_text (roster_of old.sight) replies in
    let waiting = served_run clock start ahead begun taken old.sight new.sight seat old.speaker old.waits bytes run commands replies v is asks in
    let out : Says taken taken' (old.waits ++ text) new.waits [] = record { written = said.written; took = said.took; order = append-nil (old.waits ++ text) ∙ said.order } in
    let P : Speaker → Type 0 = λ s. Served clock start ahead begun taken' (standing_at new.sight s new.waits) [] (bytes ++ run) in
    subst P (sym same) (served_flushed start ahead begun taken taken' (standing_at new.sight old.speaker (old.waits ++ text)) new.waits [] (bytes ++ run) out waiting)

-- and its text is cut off where they were not written whole
pub cut_run : (clock : ℕ → Bool) (old new : Stand) (seat : ℕ) (taken taken' : Option (List ℕ)) (run : List ℕ) (commands : List Entry) (replies : List Reply) →
    IsRun clock (roster_of old.sight) seat old.speaker run commands → AsksAll clock old.sight new.sight commands replies → TakesFront taken taken' (old.waits ++ replies_text (roster_of old.sight) replies) → IsCut clock old new [] taken taken' run
cut_run clock old new seat taken taken' run commands replies is asks front = λ start ahead begun bytes v.
    let text = replies_text (roster_of old.sight) replies in
    cut_off_waiting start ahead begun taken taken' (standing_at new.sight old.speaker (old.waits ++ text)) [] (bytes ++ run) (served_run clock start ahead begun taken old.sight new.sight seat old.speaker old.waits bytes run commands replies v is asks) front

-- what comes of the commands that were asked
asks_grow : (clock : ℕ → Bool) (old new : Sight) (commands : List Entry) (replies : List Reply) → AsksAll clock old new commands replies → (made : List Entry) × Grows old new made
asks_grow clock old new [] [] same = ([], subst (λ s. Grows old s []) (sym same) (grows_none old))
asks_grow clock old new [] (reply ∷ replies) asks = absurd asks
asks_grow clock old new (command ∷ commands) [] asks = absurd asks
asks_grow clock old new (command ∷ commands) (reply ∷ replies) (mid, first, rest) =
    let more = asks_grow clock mid new commands replies rest in
    (recorded old.seat.number command.ask reply.answer ++ more.0, grows_both old mid new (recorded old.seat.number command.ask reply.answer) more.0 first.grows more.1)

pub asks_seat : (clock : ℕ → Bool) (old new : Sight) (commands : List Entry) (replies : List Reply) → AsksAll clock old new commands replies → new.seat ≡ old.seat
asks_seat clock old new commands replies asks = (asks_grow clock old new commands replies asks).1.seat

pub asks_roster : (clock : ℕ → Bool) (old new : Sight) (commands : List Entry) (replies : List Reply) → AsksAll clock old new commands replies → roster_of new ≡ roster_of old
asks_roster clock old new commands replies asks = let g = asks_grow clock old new commands replies asks in same_roster old new g.0 g.1

-- each of the replies may be written then
pub given_all : (clock : ℕ → Bool) (old new : Sight) (commands : List Entry) (replies : List Reply) → AsksAll clock old new commands replies → All (λ reply. IsGiven new reply) replies
given_all clock old new [] [] asks = All-nil (λ reply. IsGiven new reply)
given_all clock old new [] (reply ∷ replies) asks = absurd asks
given_all clock old new (command ∷ commands) [] asks = absurd asks
given_all clock old new (command ∷ commands) (reply ∷ replies) (mid, first, rest) =
    let more = asks_grow clock mid new commands replies rest in
    let made = recorded old.seat.number command.ask reply.answer in
    let there = asked_there old.seat (mark old) mid new command.ask reply made more.0 (mark mid) more.1 first.asked in
    let R : Seat → Type 0 = λ s. IsRight s.figures new.history s.number reply in
    let right : IsRight old.seat.figures new.history old.seat.number reply = (command.ask, there.before, mid.stopped, there.told) in
    All-cons (λ r. IsGiven new r) reply replies (subst R (sym (more.1.seat ∙ first.grows.seat)) right) (given_all clock mid new commands replies rest)

-- ---- runs in parts

-- the first n lines of a run, and the others
pub run_split : (clock : ℕ → Bool) (rows : Rows) (seat : ℕ) (speaker : Speaker) (n : ℕ) (run : List ℕ) (commands : List Entry) → IsRun clock rows seat speaker run commands →
    (front : List ℕ) × (back : List ℕ) × (run ≡ front ++ back) × IsRun clock rows seat speaker front (take n commands) × IsRun clock rows seat speaker back (drop n commands)
run_split clock rows seat speaker zero run commands is = ([], run, refl, refl, is)
run_split clock rows seat speaker (suc n) run [] is = ([], run, refl, refl, is)
run_split clock rows seat speaker (suc n) run (command ∷ commands) (line, others, order, none, of, more) =
    let rest = run_split clock rows seat speaker n others commands more in (
      line ++ 10 ∷ rest.0,
      rest.1,
      order ∙ ap (λ o. line ++ 10 ∷ o) rest.2 ∙ sym (append_assoc line (10 ∷ rest.0) rest.1),
      (line, rest.0, refl, none, of, rest.3),
      rest.4,
    )

-- one line more at its end
pub run_push : (clock : ℕ → Bool) (rows : Rows) (seat : ℕ) (speaker : Speaker) (run line longer : List ℕ) (commands : List Entry) (command : Entry) → IsRun clock rows seat speaker run commands → HasNoFeed line → IsCommandOf clock rows seat speaker line command →
    longer ≡ run ++ (line ++ 10 ∷ []) → IsRun clock rows seat speaker longer (commands ++ command ∷ [])
run_push clock rows seat speaker run line longer [] command is none of order = (line, [], order ∙ ap (λ r. r ++ (line ++ 10 ∷ [])) is, none, of, refl)
run_push clock rows seat speaker run line longer (first ∷ commands) command (head, others, split, none_ahead, of_first, more) none of order = (
  head,
  others ++ (line ++ 10 ∷ []),
  order ∙ ap (λ r. r ++ (line ++ 10 ∷ [])) split ∙ append_assoc head (10 ∷ others) (line ++ 10 ∷ []),
  none_ahead,
  of_first,
  run_push clock rows seat speaker others line (others ++ (line ++ 10 ∷ [])) commands command more none of refl,
)

-- its commands are asked under one number, each at a moment of the clock
pub run_numbers : (clock : ℕ → Bool) (rows : Rows) (seat : ℕ) (speaker : Speaker) (run : List ℕ) (commands : List Entry) → IsRun clock rows seat speaker run commands → All (λ (c : Entry). c.seat ≡ seat) commands
run_numbers clock rows seat speaker run [] is = All-nil (λ (c : Entry). c.seat ≡ seat)
run_numbers clock rows seat speaker run (command ∷ commands) (line, others, order, none, of, more) =
    All-cons (λ (c : Entry). c.seat ≡ seat) command commands of.number (run_numbers clock rows seat speaker others commands more)

pub run_times : (clock : ℕ → Bool) (rows : Rows) (seat : ℕ) (speaker : Speaker) (run : List ℕ) (commands : List Entry) → IsRun clock rows seat speaker run commands → All (λ (c : Entry). IsTime clock c.ask.moment) commands
run_times clock rows seat speaker run [] is = All-nil (λ (c : Entry). IsTime clock c.ask.moment)
run_times clock rows seat speaker run (command ∷ commands) (line, others, order, none, of, more) =
    All-cons (λ (c : Entry). IsTime clock c.ask.moment) command commands of.time (run_times clock rows seat speaker others commands more)

-- ---- parts of a piece

-- a session goes on by one part and then by another
pub goes_both : (clock : ℕ → Bool) (old mid new : Stand) (kept between then_kept : List ℕ) (a b c : Option (List ℕ)) (xs ys : List ℕ) → GoesOn clock old mid kept between a b xs → GoesOn clock mid new between then_kept b c ys → GoesOn clock old new kept then_kept a c (xs ++ ys)
goes_both clock old mid new kept between then_kept a b c xs ys first then = λ start ahead begun bytes v.
    let P : List ℕ → Type 0 = λ bs. Served clock start ahead begun c new then_kept bs in
    subst P (append_assoc bytes xs ys) (then start ahead begun (bytes ++ xs) (first start ahead begun bytes v))

-- and is cut off in the second
pub goes_cut : (clock : ℕ → Bool) (old mid new : Stand) (kept between : List ℕ) (a b c : Option (List ℕ)) (xs ys : List ℕ) → GoesOn clock old mid kept between a b xs → IsCut clock mid new between b c ys → IsCut clock old new kept a c (xs ++ ys)
goes_cut clock old mid new kept between a b c xs ys first then = λ start ahead begun bytes v.
    let P : List ℕ → Type 0 = λ bs. CutOff clock start ahead begun c new.sight (cut_of bs).whole in
    subst P (append_assoc bytes xs ys) (then start ahead begun (bytes ++ xs) (first start ahead begun bytes v))

-- or is over in it
pub goes_left : (clock : ℕ → Bool) (old mid new : Stand) (kept between : List ℕ) (a b c : Option (List ℕ)) (xs ys : List ℕ) → GoesOn clock old mid kept between a b xs → IsLeft clock mid new between b c ys → IsLeft clock old new kept a c (xs ++ ys)
goes_left clock old mid new kept between a b c xs ys first then = λ start ahead begun bytes v.
    let P : List ℕ → Type 0 = λ bs. Left clock start begun c new.sight (cut_of bs).whole in
    subst P (append_assoc bytes xs ys) (then start ahead begun (bytes ++ xs) (first start ahead begun bytes v))

-- a session that was cut off is so behind more bytes, and one that is over is over
pub cut_more : (clock : ℕ → Bool) (old new : Stand) (kept : List ℕ) (a b : Option (List ℕ)) (xs ys : List ℕ) → IsCut clock old new kept a b xs → IsCut clock old new kept a b (xs ++ ys)
cut_more clock old new kept a b xs ys cut = λ start ahead begun bytes v.
    let P : List ℕ → Type 0 = λ bs. CutOff clock start ahead begun b new.sight (cut_of bs).whole in
    subst P (append_assoc bytes xs ys) (cut_off_more start ahead begun b new.sight (bytes ++ xs) ys (cut start ahead begun bytes v))

pub left_on : (clock : ℕ → Bool) (old new : Stand) (kept : List ℕ) (a b : Option (List ℕ)) (xs ys : List ℕ) → IsLeft clock old new kept a b xs → IsLeft clock old new kept a b (xs ++ ys)
left_on clock old new kept a b xs ys left = λ start ahead begun bytes v.
    let P : List ℕ → Type 0 = λ bs. Left clock start begun b new.sight (cut_of bs).whole in
    subst P (append_assoc bytes xs ys) (left_more start begun b new.sight (bytes ++ xs) ys (left start ahead begun bytes v))
