-- Which refusals a command can have.
use Rattle.std.proofs.Common.{◌≡◌, ◌⊎◌, ℕ, Bool, true, false, not, ◌&&◌, cond, List, [], ◌∷◌, Option, Some, None, refl, sym, subst, ap, ◌∙◌, inl, inr}
use Rattle.std.specs.List.{list_all}
use Rattle.std.proofs.lemmas.Bool.{and_parts}
use Rattle.command_types.specs.declared.ask.Ask.{Ask}
use Rattle.command_types.specs.declared.ask.Entry.{Entry}
use Rattle.command_types.specs.declared.answer.Answer.{Answer}
use Rattle.command_types.specs.declared.answer.Answer.TheVariants.{No}
use Rattle.command_types.specs.declared.answer.Reply.{Reply}
use Rattle.command_types.specs.declared.figures.Figures.{Figures}
use Rattle.command_types.specs.declared.figures.JournalFigures.{JournalFigures}
use Rattle.command_types.specs.declared.figures.Start.{Start}
use Rattle.command_types.specs.declared.figures.State.{State}
use Rattle.command_types.specs.declared.refusal.Refusal.{Refusal}
use Rattle.command_types.specs.declared.refusal.Refusal.TheVariants.{JournalFull, Stopped, Memory, DiskFault}
use Rattle.command_types.specs.Machine.{first_of, refused_or, is_refusal, refusals, accepted, answer_to, changes}
use Rattle.command_types.specs.History.{History, replayed_from}
use Rattle.command_types.specs.Offers.{answer_at}
use Rattle.command_types.specs.Told.{IsTold, IsRecorded, IsNotRecorded, IsHouse, IsMemory, house_refusals}

-- none of these refusals holds in a row
abbrev pub none_of : (Refusal → Bool) → List (Bool × Refusal) → Bool
none_of kind rows = list_all (λ row. not (kind row.1 && row.0)) rows

pub row_true : (kind : Refusal → Bool) (c : Bool) (r x : Refusal) (rest : Option Refusal) → not (kind r && c) ≡ true → kind x ≡ true → cond {A = Option Refusal} c (Some r) rest ≡ Some x → rest ≡ Some x
row_true kind false r x rest none is e = e
row_true kind true r x rest none is e =
    let same : r ≡ x = cc in
    let held : kind r ≡ true = ap kind same ∙ is in
    let P : Bool → Type 0 = λ b. not (b && true) ≡ true in
    let bad : false ≡ true = subst P held none in
    absurd (cc)

-- the first refusal that holds is none of them
pub first_not : (kind : Refusal → Bool) (rows : List (Bool × Refusal)) (x : Refusal) → none_of kind rows ≡ true → kind x ≡ true → first_of rows ≡ Some x → ⊥
first_not kind [] x none is e = cc
first_not kind (row ∷ rows) x none is e =
    let parts = and_parts (not (kind row.1 && row.0)) (none_of kind rows) none in
    first_not kind rows x parts.1 is (row_true kind row.0 row.1 x (first_of rows) parts.0 is e)

no_of : (a : Answer) (o : Option Refusal) (x : Refusal) → is_refusal a ≡ false → No x ≡ refused_or a o → o ≡ Some x
no_of a None x accepts e = absurd (let bad : true ≡ false = ap is_refusal e ∙ accepts in cc)
no_of a (Some r) x accepts e = let same : x ≡ r = cc in ap Some (sym same)

house_not : (kind : Refusal → Bool) (journal : Option JournalFigures) (figures : Figures) (before after : Bool) (s : State) (front : List Entry) (n : ℕ) (ask : Ask) (answer : Answer) (x : Refusal) →
    ((size : ℕ) → kind (JournalFull size) ≡ false) → ((at : ℕ) → kind (Stopped at) ≡ false) → kind DiskFault ≡ false → kind x ≡ true → IsHouse journal figures before after s front n ask answer → answer ≡ No x → ⊥
house_not kind None figures before after s front n ask answer x full stops fault is house e = house
house_not kind (Some journal) figures before after s front n ask answer x full stops fault is house e =
    let same : house.refusal ≡ x = let f : No house.refusal ≡ No x = sym house.same ∙ e in cc in
    first_not kind (house_refusals _ n before after ask) house.refusal (passes _ _ _ _ (full _) (stops n) fault) (ap kind same ∙ is) house.first
  where
    passes : (a : Bool) (size : ℕ) (b c : Bool) → kind (JournalFull size) ≡ false → kind (Stopped n) ≡ false → kind DiskFault ≡ false →
        none_of kind ((a, JournalFull size) ∷ (b, Stopped n) ∷ (c, DiskFault) ∷ []) ≡ true
    passes a size b c one two three = rw (one, two, three) refl

-- a refusal that no journal gives, and no want of memory, is the machine's: it is the first that holds
pub told_refused : (kind : Refusal → Bool) (figures : Figures) (before after : Bool) (h : History) (seat : ℕ) (ask : Ask) (reply : Reply) (x : Refusal) →
    ((size : ℕ) → kind (JournalFull size) ≡ false) → ((at : ℕ) → kind (Stopped at) ≡ false) → kind DiskFault ≡ false → kind Memory ≡ false → kind x ≡ true →
    ((s : State) → is_refusal (accepted s ask.by ask.what) ≡ false) → ((base : Start) (entries : List Entry) → answer_at base entries ask ≡ answer_to (replayed_from base.state entries) ask) →
    (t : IsTold figures before after h seat ask reply) → reply.answer ≡ No x → first_of (refusals (replayed_from h.base.state t.front) ask.by ask.what) ≡ Some x
told_refused kind figures before after h seat ask reply x full stops fault memory is accepts asks t e = by_case t.one
  where
    by_case : IsRecorded h.base.state t.front seat ask reply.answer ⊎ IsNotRecorded h.base t.front ask reply.answer ⊎ IsHouse figures.journal figures before after h.base.state t.front reply.at ask reply.answer ⊎ IsMemory figures ask.what reply.answer →
        first_of (refusals (replayed_from h.base.state t.front) ask.by ask.what) ≡ Some x
    by_case (inl r) =
        absurd (
        let change = (and_parts (changes ask.what) (not (is_refusal reply.answer)) r.change).1 in
        let refused : is_refusal reply.answer ≡ true = ap is_refusal e in
        let P : Bool → Type 0 = λ b. not b ≡ true in
        let bad : false ≡ true = subst P refused change in
        cc)
    by_case (inr (inl r)) = no_of (accepted (replayed_from h.base.state t.front) ask.by ask.what) _ x (accepts (replayed_from h.base.state t.front)) (sym e ∙ r.same ∙ asks h.base t.front)
    by_case (inr (inr (inl house))) = absurd (house_not kind figures.journal figures before after h.base.state t.front reply.at ask reply.answer x full stops fault is house e)
    by_case (inr (inr (inr no_memory))) =
        absurd (
        let same : Memory ≡ x = let f : No Memory ≡ No x = sym no_memory.same ∙ e in cc in
        let bad : false ≡ true = sym memory ∙ (ap kind same ∙ is) in
        cc)

-- a reply of a command that the machine refuses for no such cause
pub told_not : (kind : Refusal → Bool) (figures : Figures) (before after : Bool) (h : History) (seat : ℕ) (ask : Ask) (reply : Reply) (x : Refusal) →
    ((size : ℕ) → kind (JournalFull size) ≡ false) → ((at : ℕ) → kind (Stopped at) ≡ false) → kind DiskFault ≡ false → kind Memory ≡ false → kind x ≡ true →
    ((s : State) → is_refusal (accepted s ask.by ask.what) ≡ false) → ((base : Start) (entries : List Entry) → answer_at base entries ask ≡ answer_to (replayed_from base.state entries) ask) →
    (t : IsTold figures before after h seat ask reply) → none_of kind (refusals (replayed_from h.base.state t.front) ask.by ask.what) ≡ true → reply.answer ≡ No x → ⊥
told_not kind figures before after h seat ask reply x full stops fault memory is accepts asks t none e =
    first_not kind (refusals (replayed_from h.base.state t.front) ask.by ask.what) x none is (told_refused kind figures before after h seat ask reply x full stops fault memory is accepts asks t e)

-- a row of another kind is passed
pub row_passed : (kind : Refusal → Bool) (row : Bool × Refusal) (rows : List (Bool × Refusal)) (x : Refusal) → kind row.1 ≡ false → kind x ≡ true → first_of (row ∷ rows) ≡ Some x → (row.0 ≡ false) × (first_of rows ≡ Some x)
row_passed kind row rows x other is e = by row.0 refl e
  where
    by : (c : Bool) → row.0 ≡ c → cond {A = Option Refusal} c (Some row.1) (first_of rows) ≡ Some x → (row.0 ≡ false) × (first_of rows ≡ Some x)
    by false held f = (held, f)
    by true held f =
        absurd (
        let same : row.1 ≡ x = cc in
        let bad : false ≡ true = sym other ∙ (ap kind same ∙ is) in
        cc)

-- none of the conditions holds
abbrev pub NoneHolds : List (Bool × Refusal) → Type 0
NoneHolds [] = Unit {0}
NoneHolds (row ∷ rows) = (row.0 ≡ false) × NoneHolds rows

passed : (t : Bool) (refusal : Refusal) (rest : Option Refusal) → cond {A = Option Refusal} t (Some refusal) rest ≡ None → (t ≡ false) × (rest ≡ None)
passed true refusal rest e = cc
passed false refusal rest e = (refl, e)

pub none_holds : (rows : List (Bool × Refusal)) → first_of rows ≡ None → NoneHolds rows
none_holds [] e = tt
none_holds (row ∷ rows) e = let parts = passed row.0 row.1 (first_of rows) e in (parts.0, none_holds rows parts.1)
