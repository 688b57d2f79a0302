-- What is told behind the fold of a history is what is told behind the history.
use Rattle.std.proofs.Common.{◌≡◌, ◌⊎◌, ℕ, ◌+◌, ◌-◌, ◌≤◌, nat_lt, not, ◌&&◌, Bool, true, false, List, [], ◌∷◌, ◌++◌, length, length-append, take, drop, append_assoc, Option, Some, None, IsTrue, if◌then◌else◌, refl, sym, ap, ◌∙◌, subst, arith, inl, inr}
use Rattle.std.proofs.lemmas.Bool.{false≢true, cond-false}
use Rattle.std.proofs.lemmas.Bool.Decides.{nat_tests}
use Rattle.std.proofs.lemmas.List.{take-append-drop, take-append-le, take_at, drop-append-le, drop_at, drop-drop}
use Rattle.command_types.specs.declared.answer.Answer.{Answer}
use Rattle.command_types.specs.declared.answer.Answer.TheVariants.{NoNext, ProofRows, No}
use Rattle.command_types.specs.declared.answer.Reply.{Reply}
use Rattle.command_types.specs.declared.ask.Ask.{Ask}
use Rattle.command_types.specs.declared.ask.Entry.{Entry}
use Rattle.command_types.specs.declared.ask.What.{What}
use Rattle.command_types.specs.declared.ask.What.TheVariants.{Next, Proof}
use Rattle.command_types.specs.declared.figures.Figures.{Figures}
use Rattle.command_types.specs.declared.figures.JournalFigures.{JournalFigures}
use Rattle.command_types.specs.declared.figures.Start.{Start}
use Rattle.command_types.specs.declared.figures.State.{State}
use Rattle.command_types.specs.declared.refusal.Refusal.{Refusal}
use Rattle.command_types.specs.declared.refusal.Refusal.TheVariants.{Gone, Ahead, Memory}
use Rattle.command_types.specs.History.{History, end_of, is_recorded, longer, recorded, replayed, replayed_from}
use Rattle.command_types.specs.Folds.{folded}
use Rattle.command_types.specs.Machine.{answer_to, changes, first_of}
use Rattle.command_types.specs.Sizes.{frames_size}
use Rattle.command_types.specs.Told.{IsRecorded, IsNotRecorded, IsHouse, IsMemory, IsTold, house_refusals, journal_size}
use Rattle.command_types.specs.Offers.{first_behind, offered, with_entries, answer_at}
use Rattle.trade_history.specs.Folds.{AsksBehind, FoldsTellTheSame, figures_behind}
use Rattle.trade_history.proofs.Begins.{bare_on, has_begun, told_mode, begun_same}
use Rattle.trade_history.proofs.Folds.{replayed-append}

-- ---- how many changes a reply records

one_if : (t : Bool) (entry : Entry) → t ≡ true → length (if t then entry ∷ [] else []) ≡ 1
one_if true entry is = refl
one_if false entry is = absurd (false≢true is)

none_if : (t : Bool) (entry : Entry) → not t ≡ true → length (if t then entry ∷ [] else []) ≡ 0
none_if true entry is = absurd (false≢true is)
none_if false entry is = refl

recorded_one : (seat : ℕ) (ask : Ask) (answer : Answer) → IsTrue (is_recorded ask.what answer) → length (recorded seat ask answer) ≡ 1
recorded_one seat ask answer is = one_if (is_recorded ask.what answer) (record { seat = seat; ask = ask }) is

recorded_none : (seat : ℕ) (ask : Ask) (answer : Answer) → IsTrue (not (is_recorded ask.what answer)) → length (recorded seat ask answer) ≡ 0
recorded_none seat ask answer is = none_if (is_recorded ask.what answer) (record { seat = seat; ask = ask }) is

no_change : (t : Bool) → not (t && false) ≡ true
no_change true = refl
no_change false = refl

refused_none : (seat : ℕ) (ask : Ask) (answer : Answer) (refusal : Refusal) → answer ≡ No refusal → length (recorded seat ask answer) ≡ 0
refused_none seat ask answer refusal is =
    recorded_none seat ask answer (subst (λ (a : Answer). IsTrue (not (is_recorded ask.what a))) (sym is) (no_change (changes ask.what)))

-- ---- lists behind a list

-- what is left of a list that begins with another
pub behind : (xs more front back : List Entry) → xs ++ more ≡ front ++ back → length xs ≤ length front →
    (front ≡ xs ++ drop (length xs) front) × (more ≡ drop (length xs) front ++ back)
behind xs more front back split le = (
  sym (take-append-drop (length xs) front)
      ∙ ap (λ (l : List Entry). l ++ drop (length xs) front) (sym (take-append-le (length xs) front back le) ∙ ap (take (length xs)) (sym split) ∙ take_at xs more (length xs) refl),
  sym (drop_at xs more (length xs) refl) ∙ ap (drop (length xs)) split ∙ drop-append-le (length xs) front back le,
)

pub drop_behind : (xs ys : List Entry) (n m : ℕ) → m ≡ length xs + n → drop m (xs ++ ys) ≡ drop n ys
drop_behind xs ys n m is =
    ap (λ k. drop k (xs ++ ys)) is ∙ sym (drop-drop n (length xs) (xs ++ ys)) ∙ ap (drop n) (drop_at xs ys (length xs) refl)

module _ (h : History) (bare : (replayed h).cycle.mode ≡ None) (figures : Figures) (base : figures.base ≡ h.base) (late : end_of h ≤ figures.opening) where
  abbrev s : State
  s = h.base.state

  abbrev t : State
  t = replayed h

  same_state : (front : List Entry) → replayed_from s (h.entries ++ front) ≡ replayed_from t front
  same_state front = replayed-append s h.entries front

  same_size : (journal : JournalFigures) (front : List Entry) → journal_size (figures_behind h figures) journal front ≡ journal_size figures journal (h.entries ++ front)
  same_size journal front =
      ap (λ (es : List Entry). journal.size + frames_size es)
      (sym (drop_behind h.entries front (figures.opening - end_of h) (figures.opening - figures.base.position)
      (let at : figures.base.position ≡ h.base.position = ap (λ (b : Start). b.position) base in omega (arith, at, late))))

  -- ---- what a desk answers from its changes, behind the fold and behind the history

  past : (low at from : ℕ) → low ≤ at → from ≤ low → nat_lt at from ≡ false
  past low at from le less = grind (arith, nat_tests)

  offered_same : (front : List Entry) (at : ℕ) → end_of h ≤ at → offered h.base (h.entries ++ front) at ≡ offered (folded h).base front at
  offered_same front at low =
      let end : h.base.position + length (h.entries ++ front) ≡ end_of h + length front = omega (arith, length-append h.entries front) in
      let whole : nat_lt at h.base.position ≡ false = past (end_of h) at h.base.position low (omega arith) in
      let fold : nat_lt at (end_of h) ≡ false = past (end_of h) at (end_of h) low (omega arith) in
      let rest : drop (at - h.base.position) (h.entries ++ front) ≡ drop (at - end_of h) front =
      drop_behind h.entries front (at - end_of h) (at - h.base.position) (omega (arith, low)) in
      cond-false (nat_lt at h.base.position) (No (Gone h.base.position)) _ whole
      ∙ (λ i. if nat_lt (end i) at then No (Ahead (end i)) else first_behind at (rest i))
      ∙ sym (cond-false (nat_lt at (end_of h)) (No (Gone (end_of h))) _ fold)

  with_same : (front : List Entry) (by : Option (List ℕ)) (moment : ℕ) (what : What) (answer : Answer) → AsksBehind (end_of h) what →
      answer_to (replayed_from t front) (record { by = by; what = what; moment = moment }) ≡ answer → with_entries h.base (h.entries ++ front) what answer ≡ with_entries (folded h).base front what answer
  with_same front by moment (Next at) NoNext low is = offered_same front at low
  with_same front by moment (Proof cycle) (ProofRows head rows) low is =
      ap (λ n. ProofRows (record head { begun = n }) rows) (begun_same h front (has_begun t front bare (told_mode (replayed_from t front) by moment cycle head rows is)))
  with_same front by moment what answer low is = refl

  answer_same : (front : List Entry) (ask : Ask) → AsksBehind (end_of h) ask.what → answer_at h.base (h.entries ++ front) ask ≡ answer_at (folded h).base front ask
  answer_same front ask low =
      ap (λ (n : State). with_entries h.base (h.entries ++ front) ask.what (answer_to n ask)) (same_state front)
      ∙ with_same front ask.by ask.moment ask.what (answer_to (replayed_from t front) ask) low refl

  -- ---- the four cases, behind the fold and behind the history

  module _ (before after : Bool) (seat : ℕ) (ask : Ask) (low : AsksBehind (end_of h) ask.what) (answer : Answer) where
    recorded_whole : (front : List Entry) → IsRecorded t front seat ask answer → IsRecorded s (h.entries ++ front) seat ask answer
    recorded_whole front r = record {
      before = h.entries ++ r.before;
      last = ap (λ (es : List Entry). h.entries ++ es) r.last ∙ sym (append_assoc h.entries r.before (record { seat = seat; ask = ask } ∷ []));
      change = r.change;
      same = r.same ∙ ap (λ (n : State). answer_to n ask) (sym (same_state r.before));
    }

    recorded_behind : (front : List Entry) → 1 ≤ length front → IsRecorded s (h.entries ++ front) seat ask answer → IsRecorded t front seat ask answer
    recorded_behind front some r =
        let e : Entry = record { seat = seat; ask = ask } in
        let longest : length h.entries ≤ length r.before =
        (let l = ap length r.last in omega (arith, l, length-append h.entries front, length-append r.before (e ∷ []), some)) in
        let parts = behind h.entries front r.before (e ∷ []) r.last longest in
        record {
          before = drop (length h.entries) r.before;
          last = parts.1;
          change = r.change;
          same = r.same ∙ ap (λ (es : List Entry). answer_to (replayed_from s es) ask) parts.0 ∙ ap (λ (n : State). answer_to n ask) (same_state (drop (length h.entries) r.before));
        }

    house_same : (o : Option JournalFigures) (front : List Entry) (at : ℕ) →
        (IsHouse o (figures_behind h figures) before after t front at ask answer → IsHouse o figures before after s (h.entries ++ front) at ask answer)
        × (IsHouse o figures before after s (h.entries ++ front) at ask answer → IsHouse o (figures_behind h figures) before after t front at ask answer)
    house_same None front at = (λ none. none, λ none. none)
    house_same (Some journal) front at = (
      λ r. record {
        change = subst (λ (n : State). IsTrue (is_recorded ask.what (answer_to n ask))) (sym (same_state front)) r.change;
        refusal = r.refusal;
        first = ap (λ size. first_of (house_refusals size at before after ask)) (sym (same_size journal front)) ∙ r.first;
        same = r.same;
      },
      λ r. record {
        change = subst (λ (n : State). IsTrue (is_recorded ask.what (answer_to n ask))) (same_state front) r.change;
        refusal = r.refusal;
        first = ap (λ size. first_of (house_refusals size at before after ask)) (same_size journal front) ∙ r.first;
        same = r.same;
      },
    )

    house_none : (o : Option JournalFigures) (f : Figures) (n : State) (front : List Entry) (at : ℕ) → IsHouse o f before after n front at ask answer → length (recorded seat ask answer) ≡ 0
    house_none None f n front at none = absurd none
    house_none (Some journal) f n front at r = refused_none seat ask answer r.refusal r.same

    abbrev IsOne : Figures → Start → List Entry → ℕ → Type 0
    IsOne f start front at =
        IsRecorded start.state front seat ask answer ⊎ IsNotRecorded start front ask answer ⊎ IsHouse f.journal f before after start.state front at ask answer ⊎ IsMemory f ask.what answer

    one_whole : (front : List Entry) (at : ℕ) → IsOne (figures_behind h figures) (folded h).base front at → IsOne figures h.base (h.entries ++ front) at
    one_whole front at (inl r) = inl (recorded_whole front r)
    one_whole front at (inr (inl r)) = inr (inl (record { no_change = r.no_change; same = r.same ∙ sym (answer_same front ask low) }))
    one_whole front at (inr (inr (inl r))) = inr (inr (inl ((house_same figures.journal front at).0 r)))
    one_whole front at (inr (inr (inr r))) = inr (inr (inr (record { same = r.same; takes = r.takes })))

    one_behind : (front : List Entry) (at : ℕ) → length (recorded seat ask answer) ≤ length front → IsOne figures h.base (h.entries ++ front) at → IsOne (figures_behind h figures) (folded h).base front at
    one_behind front at room (inl r) = inl (recorded_behind front (let one = recorded_one seat ask answer r.change in omega (arith, one, room)) r)
    one_behind front at room (inr (inl r)) = inr (inl (record { no_change = r.no_change; same = r.same ∙ answer_same front ask low }))
    one_behind front at room (inr (inr (inl r))) = inr (inr (inl ((house_same figures.journal front at).1 r)))
    one_behind front at room (inr (inr (inr r))) = inr (inr (inr (record { same = r.same; takes = r.takes })))

    -- what is recorded is the last of the changes so far
    one_room : (f : Figures) (start : Start) (front : List Entry) (at : ℕ) → IsOne f start front at → length (recorded seat ask answer) ≤ length front
    one_room f start front at (inl r) =
        let e : Entry = record { seat = seat; ask = ask } in
        let l = ap length r.last in
        omega (arith, l, length-append r.before (e ∷ []), recorded_one seat ask answer r.change)
    one_room f start front at (inr (inl r)) = omega (arith, recorded_none seat ask answer r.no_change)
    one_room f start front at (inr (inr (inl r))) = omega (arith, house_none f.journal f start.state front at r)
    one_room f start front at (inr (inr (inr r))) = omega (arith, refused_none seat ask answer Memory r.same)

  -- ---- replies

  module _ (more : List Entry) (before after : Bool) (seat : ℕ) (ask : Ask) (low : AsksBehind (end_of h) ask.what) (reply : Reply) where
    pub told_whole : IsTold (figures_behind h figures) before after (longer (folded h) more) seat ask reply →
        (end_of h + length (recorded seat ask reply.answer) ≤ reply.at) × IsTold figures before after (longer h more) seat ask reply
    told_whole told = (
      (let at = told.place in omega (arith, at, one_room before after seat ask low reply.answer (figures_behind h figures) (folded h).base told.front reply.at told.one)),
      record {
        front = h.entries ++ told.front;
        back = told.back;
        split = ap (λ (es : List Entry). h.entries ++ es) told.split ∙ sym (append_assoc h.entries told.front told.back);
        place = (let at = told.place in omega (arith, at, length-append h.entries told.front));
        one = one_whole before after seat ask low reply.answer told.front reply.at told.one;
      },
    )

    pub told_behind : end_of h + length (recorded seat ask reply.answer) ≤ reply.at → IsTold figures before after (longer h more) seat ask reply →
        IsTold (figures_behind h figures) before after (longer (folded h) more) seat ask reply
    told_behind room told =
        let at = told.place in
        let parts = behind h.entries more told.front told.back told.split (omega (arith, at, room)) in
        let rest : List Entry = drop (length h.entries) told.front in
        let size : length told.front ≡ length h.entries + length rest = ap length parts.0 ∙ length-append h.entries rest in
        record {
          front = rest;
          back = told.back;
          split = parts.1;
          place = omega (arith, at, size);
          one = one_behind before after seat ask low reply.answer rest reply.at (omega (arith, at, size, room)) (subst (λ (es : List Entry). IsOne before after seat ask low reply.answer figures h.base es reply.at) parts.0 told.one);
        }

pub folds_tell_the_same : FoldsTellTheSame
folds_tell_the_same h closed rest more figures base late before after seat ask low reply =
    let bare = bare_on h.base.state h.entries (λ e. closed.mode) rest in (
      told_whole h bare figures base late more before after seat ask low reply,
      λ both. told_behind h bare figures base late more before after seat ask low reply both.0 both.1,
    )
