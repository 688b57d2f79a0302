-- Of the four cases of a reply no two hold together.
use Rattle.std.proofs.Common.{◌≡◌, ℕ, ◌+◌, nat_lt, Bool, true, false, not, List, [], ◌∷◌, sym, ap, ◌∙◌}
use Rattle.std.specs.Prelude.{Option, Some, None, IsTrue}
use Rattle.command_types.specs.declared.ask.Ask.{Ask}
use Rattle.command_types.specs.declared.ask.Entry.{Entry}
use Rattle.command_types.specs.declared.answer.Answer.{Answer}
use Rattle.command_types.specs.declared.answer.Answer.TheVariants.{No}
use Rattle.command_types.specs.declared.refusal.Refusal.{Refusal}
use Rattle.command_types.specs.declared.refusal.Refusal.TheVariants.{JournalFull, Stopped, Memory, DiskFault}
use Rattle.command_types.specs.declared.figures.State.{State}
use Rattle.command_types.specs.declared.figures.Figures.{Figures}
use Rattle.command_types.specs.declared.figures.JournalFigures.{JournalFigures}
use Rattle.command_types.specs.History.{is_recorded, replayed_from}
use Rattle.command_types.specs.Laws.{ToldCasesExclude}
use Rattle.command_types.specs.Machine.{first_of, answer_to}
use Rattle.command_types.specs.Sizes.{journal_limit, frame_size}
use Rattle.command_types.specs.Told.{IsRecorded, IsNotRecorded, IsHouse, IsMemory, journal_size}
use Rattle.command_types.proofs.StopFacts.{is_desks, answer_plain, recorded_plain}

both : (b : Bool) → b ≡ true → b ≡ false → ⊥
both b p q = absurd (cc)

negated : (b : Bool) → IsTrue b → IsTrue (not b) → ⊥
negated true p q = absurd (cc)
negated false p q = absurd (cc)

-- what is given, if it is
abbrev given : Option Refusal → Refusal
given None = DiskFault
given (Some refusal) = refusal

-- the answer is want of memory
abbrev wants_memory : Answer → Bool
wants_memory (No Memory) = true
wants_memory answer = false

-- a refusal of the journal is the desk's, and not want of memory
own_refusal : (full before after : Bool) (size n : ℕ) (refusal : Refusal) → first_of ((full, JournalFull size) ∷ (before, Stopped n) ∷ (after, DiskFault) ∷ []) ≡ Some refusal →
    (is_desks (No refusal) ≡ true) × (wants_memory (No refusal) ≡ false)
own_refusal true before after size n refusal e = let is : JournalFull size ≡ refusal = ap given e in (ap (λ r. is_desks (No r)) (sym is), ap (λ r. wants_memory (No r)) (sym is))
own_refusal false true after size n refusal e = let is : Stopped n ≡ refusal = ap given e in (ap (λ r. is_desks (No r)) (sym is), ap (λ r. wants_memory (No r)) (sym is))
own_refusal false false true size n refusal e = let is : DiskFault ≡ refusal = ap given e in (ap (λ r. is_desks (No r)) (sym is), ap (λ r. wants_memory (No r)) (sym is))
own_refusal false false false size n refusal e = absurd (cc)

-- the house's answer: the machine would have accepted the change, the answer is the desk's, and it is not want of memory
house_answer : (journal : Option JournalFigures) (figures : Figures) (before after : Bool) (s : State) (front : List Entry) (n : ℕ) (ask : Ask) (answer : Answer) → IsHouse journal figures before after s front n ask answer →
    IsTrue (is_recorded ask.what (answer_to (replayed_from s front) ask)) × (is_desks answer ≡ true) × (wants_memory answer ≡ false)
house_answer None figures before after s front n ask answer h = absurd h
house_answer (Some journal) figures before after s front n ask answer h =
    let own = own_refusal (nat_lt journal_limit (journal_size figures journal front + frame_size ask)) before after (journal_size figures journal front) n h.refusal h.first in
    (h.change, ap is_desks h.same ∙ own.0, ap wants_memory h.same ∙ own.1)

pub cases_exclude : ToldCasesExclude
cases_exclude figures before after base front seat n ask answer =
    let s : State = base.state in
    let House : Type 0 = IsHouse figures.journal figures before after s front n ask answer in
    let facts = λ (h : House). house_answer figures.journal figures before after s front n ask answer h in
    record {
      a_b = λ (x : IsRecorded s front seat ask answer) (y : IsNotRecorded base front ask answer). negated (is_recorded ask.what answer) x.change y.no_change;
      a_c = λ (x : IsRecorded s front seat ask answer) h. both (is_desks answer) (facts h).1 (recorded_plain ask.what answer x.change);
      a_d = λ (x : IsRecorded s front seat ask answer) (m : IsMemory figures ask.what answer). both (is_desks answer) (ap is_desks m.same) (recorded_plain ask.what answer x.change);
      b_c = λ (y : IsNotRecorded base front ask answer) h. both (is_desks answer) (facts h).1 (ap is_desks y.same ∙ answer_plain base front ask);
      b_d = λ (y : IsNotRecorded base front ask answer) (m : IsMemory figures ask.what answer). both (is_desks answer) (ap is_desks m.same) (ap is_desks y.same ∙ answer_plain base front ask);
      c_d = λ h (m : IsMemory figures ask.what answer). both (wants_memory answer) (ap wants_memory m.same) (facts h).2;
    }
