-- How far a session has come.
use Rattle.std.specs.Prelude.{◌≡◌, ℕ, ◌≤◌, Bool, true, false, List, ◌++◌, length, filter, ◌==◌, Option, Result}
use Rattle.outside.specs.Flow.{Takes, TakesFront}
use Rattle.command_types.specs.declared.ask.Ask.{Ask}
use Rattle.command_types.specs.declared.ask.Entry.{Entry}
use Rattle.command_types.specs.declared.line.Line.{Line}
use Rattle.command_types.specs.declared.answer.Reply.{Reply}
use Rattle.command_types.specs.declared.figures.Figures.{Figures}
use Rattle.command_types.specs.Roster.{Rows}
use Rattle.command_types.specs.History.{History, IsLegal, end_of, longer, recorded}
use Rattle.command_types.specs.Grammar.{line_within}
use Rattle.cycle_lock.specs.declared.pass.Pass.{Pass}
use Rattle.cycle_lock.specs.Passes.{LockId, lock_of, seat_of, figures_of, seen, saw_stop, may_split}
use Rattle.command_types.specs.Session.{Speaker, nobody, what_or_fault, speaker_after, Standing, Mark, mark_of, IsAsked, IsReplied, IsTalk}

-- what stays while a session asks: the lock that the desk is in, what the desk was when it was made, the number of the session's seat, and how many passes may be split off for others
pub record Seat : Type 0 where
  pub lock : LockId
  pub figures : Figures
  pub number : ℕ
  pub splits : ℕ

-- what a session sees of the desk that it asks
pub record Sight : Type 0 where
  pub seat : Seat
  pub history : History
  pub stopped : Bool

-- what a pass has seen
abbrev pub of_pass : Pass → Sight
of_pass pass = record { seat = record { lock = lock_of pass; figures = figures_of pass; number = seat_of pass; splits = may_split pass }; history = seen pass; stopped = saw_stop pass }

-- the roster of the desk
abbrev pub roster_of : Sight → Rows
roster_of desk = desk.history.base.state.roster

-- the end of what a session has seen
abbrev pub mark : Sight → Mark
mark desk = record { position = end_of desk.history; stopped = desk.stopped }

-- how a session stands that has seen that end, before a BYE or after it
abbrev pub standing : Sight → Speaker → Bool → Standing
standing desk speaker over = record { position = end_of desk.history; speaker = speaker; stopped = desk.stopped; over = over }

-- the changes of a seat among these
abbrev pub own_of : ℕ → List Entry → List Entry
own_of seat entries = filter (λ entry. entry.seat == seat) entries

-- The history has grown. Of what came, these are the seat's own changes.
pub record Grows (old new : Sight) (made : List Entry) : Type 0 where
  pub seat : new.seat ≡ old.seat
  pub more : List Entry
  pub grown : new.history ≡ longer old.history more
  pub own : own_of old.seat.number more ≡ made
  pub legal : IsLegal old.history → IsLegal new.history

-- A command is replied to at the new end of what the asker has seen. Its seat's own changes have grown by it where it is recorded.
pub record Asks (clock : ℕ → Bool) (old new : Sight) (ask : Ask) (reply : Reply) : Type 0 where
  pub grows : Grows old new (recorded old.seat.number ask reply.answer)
  pub asked : IsAsked clock old.seat.figures new.history old.seat.number (mark old) ask reply (recorded old.seat.number ask reply.answer) (mark new)

-- the one command of what was read of a line that is no PROPOSE, asked at this moment
abbrev pub ask_read : Rows → Speaker → Result Line ℕ → ℕ → Ask
ask_read rows speaker read moment = record { by = speaker.party; what = what_or_fault rows speaker.draft read; moment = moment }

-- What was read of a line is replied to.
pub record AnswersRead (clock : ℕ → Bool) (old new : Sight) (before after : Speaker) (read : Result Line ℕ) (reply : Reply) : Type 0 where
  pub made : List Entry
  pub grows : Grows old new made
  pub replied : IsReplied clock old.seat.figures new.history old.seat.number (mark old) (roster_of old) before read reply made (mark new)
  pub speaker : after ≡ speaker_after before read reply.answer

-- A line is replied to.
abbrev pub Answers : (ℕ → Bool) → Sight → Sight → Speaker → Speaker → List ℕ → Reply → Type 0
Answers clock old new before after line reply = AnswersRead clock old new before after (line_within line) reply

-- These lines are replied to, and the replies are written, all of them.
pub record Written (clock : ℕ → Bool) (start : Sight) (begun taken : Option (List ℕ)) (now : Sight) (lines : List (List ℕ)) : Type 0 where
  pub text : List ℕ
  pub made : List Entry
  pub to : Standing
  pub there : mark_of to ≡ mark now
  pub grows : Grows start now made
  pub took : Takes begun taken text
  pub talk : IsTalk clock start.seat.figures now.history start.seat.number (standing start nobody false) lines text made to

-- The first of these lines are replied to, up to an accepted BYE, and the replies are written.
pub record Left (clock : ℕ → Bool) (start : Sight) (begun taken : Option (List ℕ)) (now : Sight) (lines : List (List ℕ)) : Type 0 where
  pub said : List (List ℕ)
  pub others : List (List ℕ)
  pub order : lines ≡ said ++ others
  pub written : Written clock start begun taken now said
  pub over : written.to.over ≡ true

-- The replies to these lines, a session's first, are a front of the text, within this many of its bytes.
pub record AreWithin (clock : ℕ → Bool) (start now : Sight) (lines : List (List ℕ)) (text : List ℕ) (count : ℕ) : Type 0 where
  pub front : List ℕ
  pub back : List ℕ
  pub order : text ≡ front ++ back
  pub within : length front ≤ count
  pub made : List Entry
  pub to : Standing
  pub talk : IsTalk clock start.seat.figures now.history start.seat.number (standing start nobody false) lines front made to

-- The first of these lines are replied to, and of their text a front is written that is not the whole. The replies to the lines ahead are in it whole.
pub record CutOff (clock : ℕ → Bool) (start : Sight) (ahead : List (List ℕ)) (begun taken : Option (List ℕ)) (now : Sight) (lines : List (List ℕ)) : Type 0 where
  pub said : List (List ℕ)
  pub others : List (List ℕ)
  pub order : lines ≡ said ++ others
  pub text : List ℕ
  pub made : List Entry
  pub to : Standing
  pub there : mark_of to ≡ mark now
  pub grows : Grows start now made
  pub took : TakesFront begun taken text
  pub whole : AreWithin clock start now ahead text took.0
  pub talk : IsTalk clock start.seat.figures now.history start.seat.number (standing start nobody false) said text made to
