-- Lines that are answered: what a session comes to over a desk that no fault has stopped.
use Rattle.std.specs.Prelude.{◌≡◌, ◌⊎◌, ℕ, ◌+◌, ◌<◌, Bool, true, false, List, [], ◌∷◌, ◌++◌, length, IsTrue, Option, Some, Result, Ok}
use Rattle.network_laws.specs.Solutions.{SolutionData}
use Rattle.outside.specs.Flow.{Flow, Gives, IsAtEnd, Takes}
use Rattle.command_types.specs.declared.answer.Answer.TheVariants.{No}
use Rattle.command_types.specs.declared.answer.Reply.{Reply}
use Rattle.command_types.specs.declared.ask.Ask.{Ask}
use Rattle.command_types.specs.declared.ask.Entry.{Entry}
use Rattle.command_types.specs.declared.figures.Figures.{Figures}
use Rattle.command_types.specs.declared.figures.JournalFigures.{JournalFigures}
use Rattle.command_types.specs.declared.line.Line.{Line}
use Rattle.command_types.specs.declared.line.Line.TheVariants.{Propose}
use Rattle.command_types.specs.declared.refusal.Refusal.TheVariants.{JournalFull}
use Rattle.command_types.specs.Details.{reply_text}
use Rattle.command_types.specs.Grammar.{line_within}
use Rattle.command_types.specs.History.{History, recorded, is_recorded, replayed_from}
use Rattle.command_types.specs.Lines.{cut_of, lines_of}
use Rattle.command_types.specs.Machine.{answer_to}
use Rattle.command_types.specs.Offers.{answer_at}
use Rattle.command_types.specs.Roster.{Rows}
use Rattle.command_types.specs.Session.{Speaker, nobody, speaker_after, is_bye, ask_begin, ask_fetch, ask_post}
use Rattle.command_types.specs.Sizes.{journal_limit, frame_size}
use Rattle.command_types.specs.Told.{IsMemory, journal_size, tells_stop}
use Rattle.session.specs.declared.serve.SessionEnd.{SessionEnd}
use Rattle.session.specs.Ending.{session_limit, Ends}
use Rattle.session.specs.Serving.{Sight, ask_read}

-- The answer is the machine's, at a position of the history, and what it leaves open is from the changes before. A change that it accepts is the next entry there, and the reply tells the position behind it.
pub record IsOfMachine (h : History) (seat : ℕ) (ask : Ask) (reply : Reply) : Type 0 where
  pub front : List Entry
  pub back : List Entry
  pub split : h.entries ≡ front ++ (recorded seat ask reply.answer ++ back)
  pub place : reply.at ≡ h.base.position + length front + length (recorded seat ask reply.answer)
  pub same : reply.answer ≡ answer_at h.base front ask

-- The machine accepts the change at the position that the reply tells, but with its record the journal would pass its limit. The answer tells the journal's size there.
pub record IsOfFullJournal (figures : Figures) (h : History) (ask : Ask) (reply : Reply) : Type 0 where
  pub journal : JournalFigures
  pub kept : figures.journal ≡ Some journal
  pub front : List Entry
  pub back : List Entry
  pub split : h.entries ≡ front ++ back
  pub place : reply.at ≡ h.base.position + length front
  pub change : IsTrue (is_recorded ask.what (answer_to (replayed_from h.base.state front) ask))
  pub full : journal_limit < journal_size figures journal front + frame_size ask
  pub same : reply.answer ≡ No (JournalFull (journal_size figures journal front))

-- A command is answered by the machine, or for a full journal, or for want of memory.
abbrev pub IsAnswer : Figures → History → ℕ → Ask → Reply → Type 0
IsAnswer figures h seat ask reply =
    IsOfMachine h seat ask reply ⊎ (IsOfFullJournal figures h ask reply ⊎ IsMemory figures ask.what reply.answer)

-- the commands of what was read of a line: a PROPOSE has those that begin a version, fetch its problems and post their solutions, each other line one
abbrev pub IsCommandOf : Rows → Speaker → Result Line ℕ → Ask → Type 0
IsCommandOf rows speaker (Ok (Propose cycle mode)) ask =
    (ask ≡ ask_begin speaker.party cycle mode ask.moment)
    ⊎ (((version : ℕ) × (ask ≡ ask_fetch speaker.party cycle version ask.moment))
    ⊎ ((version : ℕ) × (solutions : List SolutionData) × (ask ≡ ask_post speaker.party cycle version solutions ask.moment)))
IsCommandOf rows speaker read ask = ask ≡ ask_read rows speaker read ask.moment

-- A line is answered: its reply is what a command of the line is answered, and does not tell that the desk is stopped; its text is the reply's.
pub record IsLineAnswered (figures : Figures) (h : History) (seat : ℕ) (speaker : Speaker) (line text : List ℕ) (reply : Reply) : Type 0 where
  pub ask : Ask
  pub command : IsCommandOf h.base.state.roster speaker (line_within line) ask
  pub answer : IsAnswer figures h seat ask reply
  pub runs : tells_stop reply.answer ≡ false
  pub said : text ≡ reply_text h.base.state.roster reply

-- Each of these lines is answered, one after another, up to an accepted BYE; the text is that of the replies. The last value tells whether a BYE was accepted.
abbrev pub AreAnswered : Figures → History → ℕ → Speaker → List (List ℕ) → List ℕ → Bool → Type 0
AreAnswered figures h seat speaker [] text left = (text ≡ []) × (left ≡ false)
AreAnswered figures h seat speaker (line ∷ lines) text left =
    (reply : Reply) × (head : List ℕ) × (more : List ℕ) × IsLineAnswered figures h seat speaker line head reply × (text ≡ head ++ more)
    × (((is_bye reply.answer ≡ true) × (more ≡ []) × (left ≡ true))
    ⊎ ((is_bye reply.answer ≡ false) × AreAnswered figures h seat (speaker_after speaker (line_within line) reply.answer) lines more left))

-- Which lines of the bytes that were read are to be answered: all, at the input's end, and up to a BYE those that a line feed ended; where the session took as many bytes as one may, those that a line feed ended.
abbrev pub AreToAnswer : Option Flow → List ℕ → Bool → Bool → List (List ℕ) → Type 0
AreToAnswer flow bytes left false lines = (IsAtEnd flow × (lines ≡ lines_of bytes)) ⊎ ((left ≡ true) × (lines ≡ (cut_of bytes).whole))
AreToAnswer flow bytes left true lines = (length bytes ≡ session_limit) × (left ≡ false) × (lines ≡ (cut_of bytes).whole)

-- A session's input is answered: each line up to the input's end or an accepted BYE, or else up to the session's limit; and the whole text was written.
pub record IsInputAnswered (figures : Figures) (h : History) (seat : ℕ) (opened flow : Option Flow) (begun taken : Option (List ℕ)) (limit : Bool) : Type 0 where
  pub bytes : List ℕ
  pub gives : Gives opened flow bytes
  pub left : Bool
  pub lines : List (List ℕ)
  pub which : AreToAnswer flow bytes left limit lines
  pub text : List ℕ
  pub answered : AreAnswered figures h seat nobody lines text left
  pub took : Takes begun taken text

-- a session that ended so, and was told of no stop, is answered
abbrev pub EveryLineIsAnswered : SessionEnd → Bool → Type 0
EveryLineIsAnswered end limit =
    (clock : ℕ → Bool) (start now : Sight) (opened flow : Option Flow) (begun taken : Option (List ℕ)) →
    Ends clock start opened flow begun taken now end → now.stopped ≡ false →
    IsInputAnswered start.seat.figures now.history start.seat.number opened flow begun taken limit
