-- A run: lines whose commands are known before the first of them is replied to, and are asked together.
use Rattle.std.specs.Prelude.{◌≡◌, ℕ, ◌==◌, Bool, true, false, List, [], ◌∷◌, ◌++◌, All, take, Result, Ok, Err}
use Rattle.command_types.specs.declared.ask.Entry.{Entry}
use Rattle.command_types.specs.declared.answer.Reply.{Reply}
use Rattle.command_types.specs.declared.line.Line.{Line}
use Rattle.command_types.specs.declared.line.Line.TheVariants.{Trade, Affirm, End, Hold, Free, Tol, Nets, Statement, Freeze, Limits, Plan, Accept, Decline, Cancel}
use Rattle.command_types.specs.Details.{reply_text}
use Rattle.command_types.specs.Grammar.{line_within}
use Rattle.command_types.specs.Lines.{ended_line}
use Rattle.command_types.specs.Roster.{Rows}
use Rattle.command_types.specs.Session.{Speaker, IsTime}
use Rattle.session.specs.Serving.{Sight, Asks, ask_read}

-- Each of these commands is replied to, one after another.
abbrev pub AsksAll : (ℕ → Bool) → Sight → Sight → List Entry → List Reply → Type 0
AsksAll clock old new [] [] = new ≡ old
AsksAll clock old new [] (reply ∷ replies) = ⊥
AsksAll clock old new (command ∷ commands) [] = ⊥
AsksAll clock old new (command ∷ commands) (reply ∷ replies) = (mid : Sight) × Asks clock old mid command.ask reply × AsksAll clock mid new commands replies

-- So many of these commands are asked, from the first on: by each clock that tells the moments of all they are replied to, one after another.
abbrev pub AsksFront : Sight → Sight → List Entry → ℕ → List Reply → Type 0
AsksFront old new commands count replies =
    (clock : ℕ → Bool) → All (λ (command : Entry). IsTime clock command.ask.moment) commands → AsksAll clock old new (take count commands) replies

-- a line of this kind may stand in a run: no reply to it changes who speaks or what the draft has, nor ends the session
abbrev pub may_run : Result Line ℕ → Bool
may_run (Ok (Trade seller buyer product amount day)) = true
may_run (Ok (Affirm trade)) = true
may_run (Ok (End trade)) = true
may_run (Ok (Hold trade)) = true
may_run (Ok (Free trade)) = true
may_run (Ok (Tol other product side floor ceiling)) = true
may_run (Ok (Nets product)) = true
may_run (Ok Statement) = true
may_run (Ok (Freeze day)) = true
may_run (Ok (Limits product)) = true
may_run (Ok (Plan cycle)) = true
may_run (Ok (Accept cycle version)) = true
may_run (Ok (Decline cycle version)) = true
may_run (Ok (Cancel cycle)) = true
may_run (Ok line) = false
may_run (Err at) = true

-- The command is that of a line which a line feed ended, asked under this seat's number, and the line may stand in a run.
pub record IsCommandOf (clock : ℕ → Bool) (rows : Rows) (seat : ℕ) (speaker : Speaker) (line : List ℕ) (command : Entry) : Type 0 where
  pub runs : may_run (line_within (ended_line line)) ≡ true
  pub number : command.seat ≡ seat
  pub time : IsTime clock command.ask.moment
  pub same : command.ask ≡ ask_read rows speaker (line_within (ended_line line)) command.ask.moment

-- no byte of it is a line feed
abbrev pub HasNoFeed : List ℕ → Type 0
HasNoFeed line = All (λ byte. (byte == 10) ≡ false) line

-- The bytes are lines that line feeds end, and these are their commands.
abbrev pub IsRun : (ℕ → Bool) → Rows → ℕ → Speaker → List ℕ → List Entry → Type 0
IsRun clock rows seat speaker bytes [] = bytes ≡ []
IsRun clock rows seat speaker bytes (command ∷ commands) =
    (line : List ℕ) × (others : List ℕ) × (bytes ≡ line ++ 10 ∷ others) × HasNoFeed line × IsCommandOf clock rows seat speaker line command
    × IsRun clock rows seat speaker others commands

-- the texts of these replies
abbrev pub replies_text : Rows → List Reply → List ℕ
replies_text rows [] = []
replies_text rows (reply ∷ replies) = reply_text rows reply ++ replies_text rows replies
