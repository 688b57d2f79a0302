-- Entries of one number, and what is recorded of commands that a number asks.
use Rattle.std.proofs.Common.{◌≡◌, ◌≢◌, ℕ, Bool, true, false, cond, All, List, [], ◌∷◌, take, refl, sym, ap, ◌∙◌, append_assoc}
use Rattle.std.specs.Prelude.{if◌then◌else◌}
use Rattle.std.proofs.lemmas.Bool.{eq-eqb, ne_eqb}
use Rattle.std.proofs.lemmas.List.{append-nil}
use Rattle.std.proofs.lemmas.List.Elements.{All-nil, All-cons, All-head, All-tail, All-append, All-take}
use Rattle.command_types.specs.declared.ask.Ask.{Ask}
use Rattle.command_types.specs.declared.ask.Entry.{Entry}
use Rattle.command_types.specs.declared.answer.Answer.{Answer}
use Rattle.command_types.specs.declared.answer.Reply.{Reply}
use Rattle.command_types.specs.declared.figures.Figures.{Figures}
use Rattle.command_types.specs.History.{History, longer, recorded, is_recorded}
use Rattle.command_types.specs.InTurn.{all_recorded, AreToldInTurn}
use Rattle.cycle_lock.specs.Accounts.{by}

-- these entries are of one number
abbrev pub AreOf : ℕ → List Entry → Type 0
AreOf number entries = All (λ (e : Entry). e.seat ≡ number) entries

-- they are all that it has of them, and no other number has one
pub by_self : (number : ℕ) (entries : List Entry) → AreOf number entries → by number entries ≡ entries
by_self number [] own = refl
by_self number (e ∷ entries) own =
    let is = All-head (λ (x : Entry). x.seat ≡ number) e entries own in let rest = All-tail (λ (x : Entry). x.seat ≡ number) e entries own in
    ap (λ (b : Bool). cond b (e ∷ by number entries) (by number entries)) (eq-eqb e.seat number is) ∙ ap (λ (es : List Entry). e ∷ es) (by_self number entries rest)

pub by_others : (n number : ℕ) (entries : List Entry) → AreOf number entries → n ≢ number → by n entries ≡ []
by_others n number [] own ne = refl
by_others n number (e ∷ entries) own ne =
    let is = All-head (λ (x : Entry). x.seat ≡ number) e entries own in let rest = All-tail (λ (x : Entry). x.seat ≡ number) e entries own in
    ap (λ (b : Bool). cond b (e ∷ by n entries) (by n entries)) (ne_eqb e.seat n (λ same. ne (sym same ∙ is))) ∙ by_others n number entries rest ne

if_of : (seat number : ℕ) (ask : Ask) (b : Bool) → seat ≡ number → AreOf number (if b then record { seat = seat; ask = ask } ∷ [] else [])
if_of seat number ask true is = All-cons (λ (x : Entry). x.seat ≡ number) record { seat = seat; ask = ask } [] is (All-nil (λ (x : Entry). x.seat ≡ number))
if_of seat number ask false is = All-nil (λ (x : Entry). x.seat ≡ number)

-- what is recorded of a command is its seat's
pub recorded_of : (seat number : ℕ) (ask : Ask) (answer : Answer) → seat ≡ number → AreOf number (recorded seat ask answer)
recorded_of seat number ask answer is = if_of seat number ask (is_recorded ask.what answer) is

pub all_recorded_of : (number : ℕ) (commands : List Entry) (replies : List Reply) → AreOf number commands → AreOf number (all_recorded commands replies)
all_recorded_of number [] replies own = All-nil (λ (x : Entry). x.seat ≡ number)
all_recorded_of number (command ∷ commands) [] own = All-nil (λ (x : Entry). x.seat ≡ number)
all_recorded_of number (command ∷ commands) (reply ∷ replies) own =
    All-append (λ (x : Entry). x.seat ≡ number) (recorded command.seat command.ask reply.answer) (all_recorded commands replies)
    (recorded_of command.seat number command.ask reply.answer (All-head (λ (x : Entry). x.seat ≡ number) command commands own))
    (all_recorded_of number commands replies (All-tail (λ (x : Entry). x.seat ≡ number) command commands own))

-- those of a front too
pub front_of : (number n : ℕ) (commands : List Entry) (replies : List Reply) → AreOf number commands → AreOf number (all_recorded (take n commands) replies)
front_of number n commands replies own = all_recorded_of number (take n commands) replies (All-take (λ (x : Entry). x.seat ≡ number) n commands own)

-- commands that are answered in turn leave the history longer by what is recorded of them
pub grown_in_turn : (figures : Figures) (before after : Bool) (h next : History) (commands : List Entry) (replies : List Reply) → AreToldInTurn figures before after h commands replies next → next ≡ longer h (all_recorded commands replies)
grown_in_turn figures before after h next [] [] told = told.0 ∙ ap (λ (es : List Entry). record h { entries = es }) (sym (append-nil h.entries))
grown_in_turn figures before after h next [] (reply ∷ replies) told = absurd told
grown_in_turn figures before after h next (command ∷ commands) [] told = absurd told
grown_in_turn figures before after h next (command ∷ commands) (reply ∷ replies) told =
    let one : List Entry = recorded command.seat command.ask reply.answer in let rest : List Entry = all_recorded commands replies in
    grown_in_turn figures told.1 after told.0 next commands replies told.3
    ∙ (ap (λ (g : History). longer g rest) told.2.grows ∙ ap (λ (es : List Entry). record h { entries = es }) (append_assoc h.entries one rest))

-- a desk that was stopped before them is stopped
pub stays_in_turn : (figures : Figures) (before after : Bool) (h next : History) (commands : List Entry) (replies : List Reply) → AreToldInTurn figures before after h commands replies next → before ≡ true → after ≡ true
stays_in_turn figures before after h next [] [] told was = told.1 ∙ was
stays_in_turn figures before after h next [] (reply ∷ replies) told was = absurd told
stays_in_turn figures before after h next (command ∷ commands) [] told was = absurd told
stays_in_turn figures before after h next (command ∷ commands) (reply ∷ replies) told was = stays_in_turn figures told.1 after told.0 next commands replies told.3 (told.2.stays was)
