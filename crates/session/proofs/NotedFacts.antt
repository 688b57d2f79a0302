-- What is known of a row or a potential that the machine took: none of its refusals held.
use Rattle.std.proofs.Common.{◌≡◌, ◌⊎◌, ℕ, ◌+◌, ◌-◌, ◌≤◌, Bool, true, false, nat_lt, List, [], ◌∷◌, length, drop, Option, Some, None, Result, Ok, refl, sym, ap, ◌∙◌, inl, inr, cond, ℤ, arith}
use Rattle.std.proofs.lemmas.Bool.{false≢true}
use Rattle.std.proofs.lemmas.Bool.Decides.{nat_tests}
use Rattle.command_types.specs.declared.line.Line.{Line}
use Rattle.command_types.specs.declared.line.Line.TheVariants.{Row, Pot}
use Rattle.command_types.specs.declared.ask.Ask.{Ask}
use Rattle.command_types.specs.declared.ask.What.TheVariants.{Row as AskRow, Pot as AskPot, Next, Proof}
use Rattle.command_types.specs.declared.ask.Entry.{Entry}
use Rattle.command_types.specs.declared.answer.Answer.{Answer}
use Rattle.command_types.specs.declared.answer.Answer.TheVariants.{Noted, NoNext, ProofRows, No}
use Rattle.command_types.specs.declared.answer.Reply.{Reply}
use Rattle.command_types.specs.declared.refusal.Refusal.{Refusal}
use Rattle.command_types.specs.declared.refusal.Refusal.TheVariants.{Gone, Ahead}
use Rattle.command_types.specs.declared.ask.What.{What}
use Rattle.command_types.specs.declared.figures.Start.{Start}
use Rattle.command_types.specs.declared.figures.State.{State}
use Rattle.command_types.specs.declared.figures.Figures.{Figures}
use Rattle.command_types.specs.declared.figures.JournalFigures.{JournalFigures}
use Rattle.command_types.specs.Roster.{Rows}
use Rattle.command_types.specs.Machine.{refusals, refused_or, first_of, answer_to}
use Rattle.command_types.specs.Offers.{first_behind, with_entries}
use Rattle.command_types.specs.History.{History, replayed_from}
use Rattle.command_types.specs.Told.{IsTold, IsRecorded, IsNotRecorded, IsHouse, IsMemory}
use Rattle.command_types.specs.Session.{Speaker, Draft, capped, draft_size, draft_sum, noted_row, noted_potential}
use Rattle.network_laws.specs.Solutions.{IsPotential}
use Rattle.session.specs.KeptDraft.{IsRowFor, IsPotentialFor, MayNote, HasPotential}
use Rattle.session.specs.Serving.{ask_read}

-- no refusal of a command holds in some state
record Passes (ask : Ask) : Type 0 where
  state : State
  none : first_of (refusals state ask.by ask.what) ≡ None

none_held : (answer : Answer) (refusal : Option Refusal) (size : ℕ) → Noted size ≡ refused_or answer refusal → refusal ≡ None
none_held answer None size e = refl
none_held answer (Some refusal) size e = cc e

by_house : (journal : Option JournalFigures) (figures : Figures) (before after : Bool) (s : State) (front : List Entry) (n : ℕ) (ask : Ask) (answer : Answer) (size : ℕ) →
    IsHouse journal figures before after s front n ask answer → answer ≡ Noted size → Passes ask
by_house None figures before after s front n ask answer size h e = absurd h
by_house (Some journal) figures before after s front n ask answer size h e = let no : Noted size ≡ No h.refusal = sym e ∙ h.same in cc no

-- a desk that answers from its changes never tells that something was noted
abbrev is_note : Answer → Bool
is_note (Noted size) = true
is_note answer = false

behind_not : (position : ℕ) (entries : List Entry) → is_note (first_behind position entries) ≡ false
behind_not position [] = refl
behind_not position (entry ∷ entries) = refl

offered_not : (gone ahead : Bool) (base end position : ℕ) (entries : List Entry)
    → is_note (cond {A = Answer} gone (No (Gone base)) (cond {A = Answer} ahead (No (Ahead end)) (first_behind position entries))) ≡ false
offered_not true ahead base end position entries = refl
offered_not false true base end position entries = refl
offered_not false false base end position entries = behind_not position entries

note_of : (base : Start) (entries : List Entry) (what : What) (answer : Answer) (size : ℕ) → with_entries base entries what answer ≡ Noted size → answer ≡ Noted size
note_of base entries (Next position) NoNext size e =
    let none = offered_not (nat_lt position base.position) (nat_lt (base.position + length entries) position) base.position (base.position + length entries) position (drop (position - base.position) entries) in
    absurd (false≢true (sym none ∙ ap is_note e))
note_of base entries (Proof cycle) (ProofRows head rows) size e = absurd (false≢true (ap is_note e))
note_of base entries what answer size e = e

by_case : (figures : Figures) (before after : Bool) (base : Start) (front : List Entry) (n seat : ℕ) (ask : Ask) (answer : Answer) (size : ℕ) → answer ≡ Noted size →
    IsRecorded base.state front seat ask answer ⊎ IsNotRecorded base front ask answer ⊎ IsHouse figures.journal figures before after base.state front n ask answer ⊎ IsMemory figures ask.what answer → Passes ask
by_case figures before after base front n seat ask answer size e (inl r) = record { state = replayed_from base.state r.before; none = none_held _ _ size (sym e ∙ r.same) }
by_case figures before after base front n seat ask answer size e (inr (inl r)) =
    record { state = replayed_from base.state front; none = none_held _ _ size (sym (note_of base front ask.what (answer_to (replayed_from base.state front) ask) size (sym r.same ∙ e))) }
by_case figures before after base front n seat ask answer size e (inr (inr (inl house))) = by_house figures.journal figures before after base.state front n ask answer size house e
by_case figures before after base front n seat ask answer size e (inr (inr (inr memory))) = let no = sym e ∙ memory.same in cc no

passes : (figures : Figures) (before after : Bool) (h : History) (seat : ℕ) (ask : Ask) (reply : Reply) (size : ℕ) → IsTold figures before after h seat ask reply → reply.answer ≡ Noted size → Passes ask
passes figures before after h seat ask reply size t e = by_case figures before after h.base t.front reply.at seat ask reply.answer size e t.one

-- the first condition does not hold, and none of the others
passed : (t : Bool) (refusal : Refusal) (rest : Option Refusal) → cond {A = Option Refusal} t (Some refusal) rest ≡ None → (t ≡ false) × (rest ≡ None)
passed true refusal rest e = cc e
passed false refusal rest e = (refl, e)

not_above : (most n : ℕ) → nat_lt most n ≡ false → n ≤ most
not_above most n e = grind (arith, nat_tests)

not_capped : (sum : ℕ) → nat_lt 1000000000000000000 (capped sum) ≡ false → sum ≤ 1000000000000000000
not_capped sum e = by (nat_lt 1000000000000000000 sum) refl e
  where
    by : (t : Bool) → nat_lt 1000000000000000000 sum ≡ t → nat_lt 1000000000000000000 (cond {A = ℕ} t 1000000000000000001 sum) ≡ false → sum ≤ 1000000000000000000
    by true is h = cc h
    by false is h = not_above 1000000000000000000 sum is

-- no condition of a list holds
abbrev NoneHolds : List (Bool × Refusal) → Type 0
NoneHolds [] = Unit {0}
NoneHolds (row ∷ rows) = (row.0 ≡ false) × NoneHolds rows

none_holds : (rows : List (Bool × Refusal)) → first_of rows ≡ None → NoneHolds rows
none_holds [] e = tt
none_holds (row ∷ rows) e = let parts = passed row.0 row.1 (first_of rows) e in (parts.0, none_holds rows parts.1)

row_passes : (draft : Draft) (by : Option (List ℕ)) (moment : ℕ) (product seller buyer : List ℕ) (amount : ℕ) →
    Passes (record { by = by; what = AskRow product seller buyer amount (draft_size (noted_row draft product seller buyer amount)) (capped (draft_sum product (noted_row draft product seller buyer amount).rows)); moment = moment }) →
    IsRowFor draft product seller buyer amount
row_passes draft by moment product seller buyer amount p =
    let none = none_holds (refusals p.state by (AskRow product seller buyer amount (draft_size (noted_row draft product seller buyer amount)) (capped (draft_sum product (noted_row draft product seller buyer amount).rows)))) p.none in
    let terms = none.1.1.1.1 in
    record {
      parties = terms.0;
      within = not_capped (draft_sum product (noted_row draft product seller buyer amount).rows) terms.1.0;
      few = not_above 100000 (draft_size (noted_row draft product seller buyer amount)) terms.1.1.0;
    }

potential_passes : (draft : Draft) (by : Option (List ℕ)) (moment : ℕ) (product member : List ℕ) (value : ℤ) → IsPotential value →
    Passes (record { by = by; what = AskPot product member value (draft_size (noted_potential draft product member value)); moment = moment }) → IsPotentialFor draft product member value
potential_passes draft by moment product member value in_range p =
    let none = none_holds (refusals p.state by (AskPot product member value (draft_size (noted_potential draft product member value)))) p.none in
    record { in_range = in_range; few = not_above 100000 (draft_size (noted_potential draft product member value)) none.1.1.1.1.0 }

-- what the machine took may be noted
pub may_note : (figures : Figures) (before after : Bool) (h : History) (seat : ℕ) (rows : Rows) (speaker : Speaker) (read : Result Line ℕ) (moment : ℕ) (reply : Reply) (size : ℕ) → HasPotential read →
    IsTold figures before after h seat (ask_read rows speaker read moment) reply → reply.answer ≡ Noted size → MayNote speaker.draft read
may_note figures before after h seat rows speaker (Ok (Row product seller buyer amount)) moment reply size fit t e =
    row_passes speaker.draft speaker.party moment product seller buyer amount (passes figures before after h seat _ reply size t e)
may_note figures before after h seat rows speaker (Ok (Pot product member value)) moment reply size fit t e =
    potential_passes speaker.draft speaker.party moment product member value fit (passes figures before after h seat _ reply size t e)
may_note figures before after h seat rows speaker read moment reply size fit t e = tt
