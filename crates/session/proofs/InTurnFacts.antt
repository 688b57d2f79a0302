-- From what a lock tells of several commands to commands that are asked one after another.
use Rattle.std.proofs.Common.{◌≡◌, ℕ, ◌<◌, ◌==◌, Bool, true, false, All, List, [], ◌∷◌, ◌++◌, length, refl, sym, subst, ap, ◌∙◌, arith, cond, eq-eqb}
use Rattle.std.proofs.lemmas.List.{append-nil, length-append}
use Rattle.std.proofs.lemmas.List.Elements.{filter-append, All-head, All-tail}
use Rattle.command_types.specs.declared.ask.Ask.{Ask}
use Rattle.command_types.specs.declared.ask.Entry.{Entry}
use Rattle.command_types.specs.declared.answer.Answer.{Answer}
use Rattle.command_types.specs.declared.answer.Reply.{Reply}
use Rattle.command_types.specs.declared.figures.Figures.{Figures}
use Rattle.command_types.specs.declared.figures.State.{State}
use Rattle.command_types.specs.History.{History, IsLegal, IsLegalFrom, end_of, longer, recorded, is_recorded, entries_of_seat}
use Rattle.command_types.specs.Machine.{state_after}
use Rattle.command_types.specs.InTurn.{all_recorded, IsToldNext, AreToldInTurn}
use Rattle.command_types.specs.Told.{IsTold}
use Rattle.command_types.specs.Session.{IsTime}
use Rattle.cycle_lock.specs.declared.pass.Pass.{Pass}
use Rattle.cycle_lock.specs.Passes.{lock_of, seat_of, figures_of, seen, saw_stop, may_split, AreToldInOneTurn}
use Rattle.session.specs.Runs.{AsksAll}
use Rattle.session.specs.Serving.{Seat, Sight, of_pass, own_of, Grows, Asks}
use Rattle.session.proofs.GrowthFacts.{longer_longer, grows_both, later_own}

-- a seat that sees this
abbrev at : Seat → History → Bool → Sight
at seat h stopped = record { seat = seat; history = h; stopped = stopped }

legal_front : (s : State) (xs ys : List Entry) → IsLegalFrom s (xs ++ ys) → IsLegalFrom s xs
legal_front s [] ys l = tt
legal_front s (x ∷ xs) ys l = (l.0, legal_front (state_after s x.ask) xs ys l.1)

-- the history behind commands that were answered in turn
grown : (figures : Figures) (before after : Bool) (h : History) (commands : List Entry) (replies : List Reply) (next : History) → AreToldInTurn figures before after h commands replies next → next ≡ longer h (all_recorded commands replies)
grown figures before after h [] [] next t = t.0 ∙ ap (λ es. record h { entries = es }) (sym (append-nil h.entries))
grown figures before after h [] (reply ∷ replies) next t = absurd t
grown figures before after h (command ∷ commands) [] next t = absurd t
grown figures before after h (command ∷ commands) (reply ∷ replies) next (middle, mid, first, rest) =
    grown figures mid after middle commands replies next rest
    ∙ ap (λ v. longer v (all_recorded commands replies)) first.grows
    ∙ longer_longer h (recorded command.seat command.ask reply.answer) (all_recorded commands replies)

-- what comes of a seat's command is the seat's own
own_by : (seat : ℕ) (ask : Ask) (t : Bool) → own_of seat (cond {A = List Entry} t (record { seat = seat; ask = ask } ∷ []) []) ≡ cond {A = List Entry} t (record { seat = seat; ask = ask } ∷ []) []
own_by seat ask true = ap (λ t. cond {A = List Entry} t (record { seat = seat; ask = ask } ∷ []) []) (eq-eqb seat seat refl)
own_by seat ask false = refl

own_recorded : (seat : ℕ) (ask : Ask) (answer : Answer) → own_of seat (recorded seat ask answer) ≡ recorded seat ask answer
own_recorded seat ask answer = own_by seat ask (is_recorded ask.what answer)

own_recorded_at : (seat number : ℕ) (ask : Ask) (answer : Answer) → number ≡ seat → own_of seat (recorded number ask answer) ≡ recorded number ask answer
own_recorded_at seat number ask answer is = let P : ℕ → Type 0 = λ n. own_of seat (recorded n ask answer) ≡ recorded n ask answer in subst P (sym is) (own_recorded seat ask answer)

own_all : (seat : ℕ) (commands : List Entry) (replies : List Reply) → All (λ (c : Entry). c.seat ≡ seat) commands → own_of seat (all_recorded commands replies) ≡ all_recorded commands replies
own_all seat [] replies all = refl
own_all seat (command ∷ commands) [] all = refl
own_all seat (command ∷ commands) (reply ∷ replies) all =
    let first = recorded command.seat command.ask reply.answer in
    let rest = all_recorded commands replies in
    filter-append (λ (entry : Entry). entry.seat == seat) first rest
    ∙ ap (λ es. es ++ own_of seat rest) (own_recorded_at seat command.seat command.ask reply.answer (All-head (λ (c : Entry). c.seat ≡ seat) command commands all))
    ∙ ap (λ es. first ++ es) (own_all seat commands replies (All-tail (λ (c : Entry). c.seat ≡ seat) command commands all))

-- one of them
link : (clock : ℕ → Bool) (seat : Seat) (before after : Bool) (h : History) (command : Entry) (reply : Reply) (next : History) →
    IsToldNext seat.figures before after h command reply next → command.seat ≡ seat.number → IsTime clock command.ask.moment → IsLegal next → Asks clock (at seat h before) (at seat next after) command.ask reply
link clock seat before after h command reply next t is time legal =
    let made = recorded seat.number command.ask reply.answer in
    let goes : next ≡ longer h made = t.grows ∙ ap (λ n. longer h (recorded n command.ask reply.answer)) is in
    let ends : end_of next ≡ end_of (longer h made) = ap end_of goes in
    record {
      grows = record { seat = refl; more = made; grown = goes; own = own_recorded seat.number command.ask reply.answer; legal = λ old. legal };
      asked = record {
        time = time;
        before = before;
        told = subst (λ n. IsTold seat.figures before after next n command.ask reply) is t.told;
        later = omega (arith, t.place, ends, length-append h.entries made);
        known = λ e. e;
        stays = t.stays;
        runs = t.runs;
        keeps = refl;
        position = sym t.place;
      };
    }

-- the history that a chain begins at is legal where the last one is
legal_before : (figures : Figures) (before after : Bool) (h : History) (commands : List Entry) (replies : List Reply) (next : History) → AreToldInTurn figures before after h commands replies next → IsLegal next → IsLegal h
legal_before figures before after h commands replies next t legal =
    legal_front h.base.state h.entries (all_recorded commands replies) (subst IsLegal (grown figures before after h commands replies next t) legal)

-- all of them, from where the first was asked
links : (clock : ℕ → Bool) (seat : Seat) (before after : Bool) (h : History) (commands : List Entry) (replies : List Reply) (next : History) →
    AreToldInTurn seat.figures before after h commands replies next → All (λ (c : Entry). c.seat ≡ seat.number) commands → All (λ (c : Entry). IsTime clock c.ask.moment) commands → IsLegal next → AsksAll clock (at seat h before) (at seat next after) commands replies
links clock seat before after h [] [] next t seats times legal = λ i. at seat (t.0 i) (t.1 i)
links clock seat before after h [] (reply ∷ replies) next t seats times legal = absurd t
links clock seat before after h (command ∷ commands) [] next t seats times legal = absurd t
links clock seat before after h (command ∷ commands) (reply ∷ replies) next (middle, mid, first, rest) seats times legal = (
  at seat middle mid,
  link clock seat before mid h command reply middle first (All-head (λ (c : Entry). c.seat ≡ seat.number) command commands seats) (All-head (λ (c : Entry). IsTime clock c.ask.moment) command commands times) (legal_before seat.figures mid after middle commands replies next rest legal),
  links clock seat mid after middle commands replies next rest (All-tail (λ (c : Entry). c.seat ≡ seat.number) command commands seats) (All-tail (λ (c : Entry). IsTime clock c.ask.moment) command commands times) legal,
)

-- what was asked where others' changes had come is asked from before these
sooner : (clock : ℕ → Bool) (old mid : Sight) (h : History) (before : Bool) (jump : List Entry) (ask : Ask) (reply : Reply) → h ≡ longer old.history jump → own_of old.seat.number jump ≡ [] → (old.stopped ≡ true → before ≡ true) → IsLegal h →
    Asks clock (at old.seat h before) mid ask reply → Asks clock old mid ask reply
sooner clock old mid h before jump ask reply goes none known legal a =
    let jumps : Grows old (at old.seat h before) [] = record { seat = refl; more = jump; grown = goes; own = none; legal = λ was. legal } in
    let ends : end_of h ≡ end_of (longer old.history jump) = ap end_of goes in
    record {
      grows = grows_both old (at old.seat h before) mid [] (recorded old.seat.number ask reply.answer) jumps a.grows;
      asked = record {
        time = a.asked.time;
        before = a.asked.before;
        told = a.asked.told;
        later = omega (arith, a.asked.later, ends, length-append old.history.entries jump);
        known = λ e. a.asked.known (known e);
        stays = a.asked.stays;
        runs = a.asked.runs;
        keeps = a.asked.keeps;
        position = a.asked.position;
      };
    }

all_sooner : (clock : ℕ → Bool) (old new : Sight) (h : History) (before : Bool) (jump : List Entry) (commands : List Entry) (replies : List Reply) → h ≡ longer old.history jump → own_of old.seat.number jump ≡ [] → (old.stopped ≡ true → before ≡ true) → IsLegal h → 0 < length replies →
    AsksAll clock (at old.seat h before) new commands replies → AsksAll clock old new commands replies
all_sooner clock old new h before jump [] [] goes none known legal some a = absurd (let never : ⊥ = omega (arith, some) in never)
all_sooner clock old new h before jump [] (reply ∷ replies) goes none known legal some a = absurd a
all_sooner clock old new h before jump (command ∷ commands) [] goes none known legal some a = absurd a
all_sooner clock old new h before jump (command ∷ commands) (reply ∷ replies) goes none known legal some (mid, first, rest) =
    (mid, sooner clock old mid h before jump command.ask reply goes none known legal first, rest)

no_length : (xs : List Entry) → length xs ≡ 0 → xs ≡ []
no_length [] e = refl
no_length (x ∷ xs) e = absurd (let never : ⊥ = omega (arith, e) in never)

-- what others changed before the first is not the seat's own
jump_none : (seat : ℕ) (old h new : History) (jump made : List Entry) → h ≡ longer old jump → new ≡ longer h made → own_of seat made ≡ made → entries_of_seat new seat (end_of old) ≡ made → own_of seat jump ≡ []
jump_none seat old h new jump made to_h to_new own later =
    let all : new ≡ longer old (jump ++ made) = to_new ∙ ap (λ v. longer v made) to_h ∙ longer_longer old jump made in
    let both : own_of seat jump ++ made ≡ made =
    ap (λ es. own_of seat jump ++ es) (sym own) ∙ sym (filter-append (λ (entry : Entry). entry.seat == seat) jump made)
    ∙ sym (later_own old (jump ++ made) seat) ∙ ap (λ v. entries_of_seat v seat (end_of old)) (sym all) ∙ later in
    let size : length (own_of seat jump ++ made) ≡ length made = ap length both in
    no_length (own_of seat jump) (omega (arith, size, length-append (own_of seat jump) made))

-- what a call of several commands in its turn tells
pub asks_all_called : (clock : ℕ → Bool) (p q : Pass) (commands : List Entry) (replies : List Reply) → lock_of q ≡ lock_of p → seat_of q ≡ seat_of p → figures_of q ≡ figures_of p → may_split q ≡ may_split p → IsLegal (seen q) → 0 < length replies →
    All (λ (c : Entry). c.seat ≡ seat_of p) commands → All (λ (c : Entry). IsTime clock c.ask.moment) commands →
    AreToldInOneTurn p q commands replies →
    entries_of_seat (seen q) (seat_of p) (end_of (seen p)) ≡ all_recorded commands replies → AsksAll clock (of_pass p) (of_pass q) commands replies
asks_all_called clock p q commands replies lock seat figures splits legal some seats times t later =
    let from = t.from in
    let before = t.before in
    let goes = t.goes_on in
    let there = subst (λ f. AreToldInTurn f before (saw_stop q) from commands replies (seen q)) figures t.told in
    let own = jump_none (seat_of p) (seen p) from (seen q) goes.0 (all_recorded commands replies) goes.1 (grown (figures_of p) before (saw_stop q) from commands replies (seen q) there) (own_all (seat_of p) commands replies seats) later in
    let legal_from = legal_before (figures_of p) before (saw_stop q) from commands replies (seen q) there legal in
    let to : at (of_pass p).seat (seen q) (saw_stop q) ≡ of_pass q =
    λ i. record { seat = record { lock = sym lock i; figures = sym figures i; number = sym seat i; splits = sym splits i }; history = seen q; stopped = saw_stop q } in
    let P : Sight → Type 0 = λ s. AsksAll clock (of_pass p) s commands replies in
    subst P to (all_sooner clock (of_pass p) (at (of_pass p).seat (seen q) (saw_stop q)) from before goes.0 commands replies goes.1 own t.knew legal_from some
    (links clock (of_pass p).seat before (saw_stop q) from commands replies (seen q) there seats times legal))
