-- What a reply says of the history, by one of four cases.
use Rattle.std.specs.Prelude.{◌≡◌, ℕ, ◌+◌, ◌-◌, nat_lt, Bool, true, false, not, ◌⊎◌, List, [], ◌∷◌, ◌++◌, length, drop, Option, Some, None, IsTrue}
use Rattle.command_types.specs.declared.ask.Ask.{Ask}
use Rattle.command_types.specs.declared.ask.Entry.{Entry}
use Rattle.command_types.specs.declared.ask.What.{What}
use Rattle.command_types.specs.declared.ask.What.TheVariants.{Accept}
use Rattle.command_types.specs.declared.answer.Answer.{Answer}
use Rattle.command_types.specs.declared.answer.Answer.TheVariants.{No}
use Rattle.command_types.specs.declared.refusal.Refusal.{Refusal}
use Rattle.command_types.specs.declared.refusal.Refusal.TheVariants.{JournalFull, Stopped, Memory, DiskFault}
use Rattle.command_types.specs.declared.answer.Reply.{Reply}
use Rattle.command_types.specs.declared.figures.State.{State}
use Rattle.command_types.specs.declared.figures.Figures.{Figures}
use Rattle.command_types.specs.declared.figures.JournalFigures.{JournalFigures}
use Rattle.command_types.specs.declared.figures.Start.{Start}
use Rattle.command_types.specs.Machine.{answer_to, first_of}
use Rattle.command_types.specs.Offers.{answer_at}
use Rattle.command_types.specs.History.{History, replayed_from, is_recorded}
use Rattle.command_types.specs.Sizes.{journal_limit, frame_size, frames_size}

-- The command is the last of these entries, and its answer is the machine's, before it.
pub record IsRecorded (s : State) (front : List Entry) (seat : ℕ) (ask : Ask) (answer : Answer) : Type 0 where
  pub before : List Entry
  pub last : front ≡ before ++ record { seat = seat; ask = ask } ∷ []
  pub change : IsTrue (is_recorded ask.what answer)
  pub same : answer ≡ answer_to (replayed_from s before) ask

-- The command is a read, or the machine refuses it. Its answer is the machine's, after these entries, and what it leaves open is from them.
pub record IsNotRecorded (base : Start) (front : List Entry) (ask : Ask) (answer : Answer) : Type 0 where
  pub no_change : IsTrue (not (is_recorded ask.what answer))
  pub same : answer ≡ answer_at base front ask

-- the journal's bytes after these entries, of which those since the opening were appended
abbrev pub journal_size : Figures → JournalFigures → List Entry → ℕ
journal_size figures journal front = journal.size + frames_size (drop (figures.opening - figures.base.position) front)

-- the refusals of a desk with a journal, in their order: the journal is full, the desk was stopped before, it stops in this call
abbrev pub house_refusals : ℕ → ℕ → Bool → Bool → Ask → List (Bool × Refusal)
house_refusals size n before after ask =
    (nat_lt journal_limit (size + frame_size ask), JournalFull size)
    ∷ (before, Stopped n)
    ∷ (after, DiskFault)
    ∷ []

-- The machine accepts the change after these entries, and the desk with this journal refuses it.
pub record IsRefusedByJournal (figures : Figures) (journal : JournalFigures) (before after : Bool) (s : State) (front : List Entry) (n : ℕ) (ask : Ask) (answer : Answer) : Type 0 where
  pub change : IsTrue (is_recorded ask.what (answer_to (replayed_from s front) ask))
  pub refusal : Refusal
  pub first : first_of (house_refusals (journal_size figures journal front) n before after ask) ≡ Some refusal
  pub same : answer ≡ No refusal

-- A desk without a journal has no refusals of its own.
abbrev pub IsHouse : Option JournalFigures → Figures → Bool → Bool → State → List Entry → ℕ → Ask → Answer → Type 0
IsHouse None figures before after s front n ask answer = ⊥
IsHouse (Some journal) figures before after s front n ask answer = IsRefusedByJournal figures journal before after s front n ask answer

-- the command is a vote for a plan
abbrev pub is_accept : What → Bool
is_accept (Accept cycle version) = true
is_accept what = false

-- Want of memory, which may come in place of any answer but a disk fault; of an ACCEPT only at a desk whose votes take memory.
pub record IsMemory (figures : Figures) (what : What) (answer : Answer) : Type 0 where
  pub same : answer ≡ No Memory
  pub takes : is_accept what ≡ true → figures.votes_take_memory ≡ true

-- The reply is right at its position of the history, for a desk with these figures that was stopped before the call, or is after it, as said.
pub record IsTold (figures : Figures) (before after : Bool) (h : History) (seat : ℕ) (ask : Ask) (reply : Reply) : Type 0 where
  pub front : List Entry
  pub back : List Entry
  pub split : h.entries ≡ front ++ back
  pub place : reply.at ≡ h.base.position + length front
  pub one :
      IsRecorded h.base.state front seat ask reply.answer
      ⊎ IsNotRecorded h.base front ask reply.answer
      ⊎ IsHouse figures.journal figures before after h.base.state front reply.at ask reply.answer
      ⊎ IsMemory figures ask.what reply.answer

-- an answer of a desk that a disk fault stopped, in this call or before
abbrev pub tells_stop : Answer → Bool
tells_stop (No (Stopped at)) = true
tells_stop (No DiskFault) = true
tells_stop answer = false
