-- That a script's text is the only one.
use Rattle.std.specs.Prelude.{◌≡◌, ℕ, Bool, true, false, All, List, Result, Ok}
use Rattle.command_types.specs.declared.ask.Entry.{Entry}
use Rattle.command_types.specs.declared.answer.Answer.{Answer}
use Rattle.command_types.specs.declared.answer.Answer.TheVariants.{No}
use Rattle.command_types.specs.declared.figures.Figures.{Figures}
use Rattle.command_types.specs.declared.line.Line.{Line}
use Rattle.command_types.specs.declared.line.Line.TheVariants.{Propose}
use Rattle.command_types.specs.declared.refusal.Refusal.{Refusal}
use Rattle.command_types.specs.declared.refusal.Refusal.TheVariants.{JournalFull, Stopped, DiskFault, Memory}
use Rattle.command_types.specs.Grammar.{line_within}
use Rattle.command_types.specs.History.{History, end_of, longer}
use Rattle.command_types.specs.Session.{Standing, IsTalk}
use Rattle.proposal_laws.specs.Turns.{Turn, turns}

-- a refusal for what the machine does not know: a full journal, a stop, a fault of the disk, want of memory
abbrev pub is_outside : Refusal → Bool
is_outside (JournalFull size) = true
is_outside (Stopped at) = true
is_outside DiskFault = true
is_outside Memory = true
is_outside refusal = false

-- an answer that tells such a refusal
abbrev pub tells_outside : Answer → Bool
tells_outside (No refusal) = is_outside refusal
tells_outside answer = false

-- what was read of a line is a PROPOSE
abbrev pub is_proposal : Result Line ℕ → Bool
is_proposal (Ok (Propose cycle mode)) = true
is_proposal read = false

-- the line is no PROPOSE, and its reply tells no refusal for what the machine does not know
abbrev pub IsPlain : {clock : ℕ → Bool} {figures : Figures} {h : History} {seat : ℕ} → Turn clock figures h seat → Type 0
IsPlain turn = (is_proposal (line_within turn.line) ≡ false) × (tells_outside turn.answered.reply.answer ≡ false)

-- These lines were replied to with this text, all of them plainly. Behind the history from before came their changes and no others.
pub record IsPlainScript (clock : ℕ → Bool) (figures : Figures) (h : History) (seat : ℕ) (from : Standing) (lines : List (List ℕ)) (text : List ℕ) : Type 0 where
  pub made : List Entry
  pub to : Standing
  pub talk : IsTalk clock figures (longer h made) seat from lines text made to
  pub plain : All IsPlain (turns clock figures (longer h made) seat from lines text made to talk)

-- the clock tells one moment alone
abbrev pub TellsOne : (ℕ → Bool) → Type 0
TellsOne clock = (a b : ℕ) → clock a ≡ true → clock b ≡ true → a ≡ b

-- behind one history the same lines, replied to plainly at one moment, have one text, and one list of changes
abbrev pub ScriptTextsAreOne : Type 0
ScriptTextsAreOne =
    (clock : ℕ → Bool) → TellsOne clock → (figures : Figures) (h : History) (seat : ℕ) (from : Standing) → from.position ≡ end_of h →
    (lines : List (List ℕ)) (text other : List ℕ) → (a : IsPlainScript clock figures h seat from lines text) → (b : IsPlainScript clock figures h seat from lines other) →
    (text ≡ other) × (a.made ≡ b.made)
