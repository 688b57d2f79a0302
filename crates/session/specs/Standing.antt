-- Where a session stands between two lines, and how it goes on from there.
use Rattle.std.specs.Prelude.{◌≡◌, ℕ, Bool, ◌+◌, false, List, [], ◌++◌, length, take, Option, Result, IfOk, IfSome, if◌then◌else◌}
use Rattle.outside.specs.declared.failed.Failed.{Failed}
use Rattle.outside.specs.Flow.{TakesFront}
use Rattle.command_types.specs.declared.ask.Entry.{Entry}
use Rattle.command_types.specs.declared.answer.Answer.{Answer}
use Rattle.command_types.specs.declared.answer.Reply.{Reply}
use Rattle.command_types.specs.Lines.{cut_of, lines_of}
use Rattle.command_types.specs.Details.{reply_text}
use Rattle.command_types.specs.Session.{is_bye, Speaker, nobody, IsTalk}
use Rattle.session.specs.declared.taking.Step.{Step}
use Rattle.session.specs.declared.taking.Step.TheVariants.{On, Over}
use Rattle.session.specs.declared.session.Session.{Session}
use Rattle.session.specs.KeptSpeaker.{speaker_of}
use Rattle.session.specs.Pending.{Says}
use Rattle.session.specs.Serving.{Sight, of_pass, roster_of, standing, Grows, Answers, Written, Left, AreWithin, CutOff}
use Rattle.units_core.specs.declared.limits.TheConstants.{MOST_LINE}

-- what a session has seen of the desk, who speaks, and what waits for the sink
pub record Stand : Type 0 where
  pub sight : Sight
  pub speaker : Speaker
  pub waits : List ℕ

-- how a session stands
abbrev pub stand_of : {T R V G : Type 0} → Session T R V G → Stand
stand_of session = record { sight = of_pass session.asker.pass; speaker = speaker_of session.speaker; waits = session.writer.outbox }

-- a session goes on after each answer but that to an accepted BYE
abbrev pub step_of : Answer → Step
step_of answer = if is_bye answer then Over else On

-- A line is replied to, and the reply comes behind what waited for the sink. Behind the reply to a BYE nothing waits.
pub record RepliesWhole (clock : ℕ → Bool) (old new : Stand) (line : List ℕ) (taken then_taken : Option (List ℕ)) (step : Step) : Type 0 where
  pub reply : Reply
  pub answers : Answers clock old.sight new.sight old.speaker new.speaker line reply
  pub said : Says taken then_taken old.waits new.waits (reply_text (roster_of old.sight) reply)
  pub next : step ≡ step_of reply.answer
  pub flushed : step ≡ Over → new.waits ≡ []

-- A line is replied to, and of what waited and the reply a front is written that is not the whole.
pub record RepliesInPart (clock : ℕ → Bool) (old new : Stand) (line : List ℕ) (taken then_taken : Option (List ℕ)) : Type 0 where
  pub reply : Reply
  pub answers : Answers clock old.sight new.sight old.speaker new.speaker line reply
  pub took : TakesFront taken then_taken (old.waits ++ reply_text (roster_of old.sight) reply)

-- All whole lines of these bytes are replied to, the replies are written but for what waits, those to the lines ahead among them, and the begun line is kept, as far as it counts.
pub record Served (clock : ℕ → Bool) (start : Sight) (ahead : List (List ℕ)) (begun taken : Option (List ℕ)) (stand : Stand) (kept bytes : List ℕ) : Type 0 where
  pub text : List ℕ
  pub made : List Entry
  pub grows : Grows start stand.sight made
  pub said : Says begun taken [] stand.waits text
  pub whole : AreWithin clock start stand.sight ahead text (length said.written)
  pub talk : IsTalk clock start.seat.figures stand.sight.history start.seat.number (standing start nobody false) (cut_of bytes).whole text made (standing stand.sight stand.speaker false)
  pub line : kept ≡ take (MOST_LINE + 1) (cut_of bytes).rest

-- whatever a session has served that stands here, with this begun line, and whose sink had taken this
abbrev pub Serves : (ℕ → Bool) → Stand → List ℕ → Option (List ℕ) → (Sight → List (List ℕ) → Option (List ℕ) → List ℕ → Type 0) → Type 0
Serves clock stand kept taken P = (start : Sight) (ahead : List (List ℕ)) (begun : Option (List ℕ)) (bytes : List ℕ) → Served clock start ahead begun taken stand kept bytes → P start ahead begun bytes

-- with these bytes more it has served them too
abbrev pub GoesOn : (ℕ → Bool) → Stand → Stand → List ℕ → List ℕ → Option (List ℕ) → Option (List ℕ) → List ℕ → Type 0
GoesOn clock old new kept then_kept taken then_taken more = Serves clock old kept taken (λ start ahead begun bytes. Served clock start ahead begun then_taken new then_kept (bytes ++ more))

-- where so many bytes of a piece were taken, it goes on by them
abbrev pub GoesOnFront : (ℕ → Bool) → Stand → Stand → List ℕ → List ℕ → Option (List ℕ) → Option (List ℕ) → List ℕ → Result (Option ℕ) Failed → Type 0
GoesOnFront clock old new kept then_kept taken then_taken piece front =
    IfOk front (λ some. IfSome some (λ size. GoesOn clock old new kept then_kept taken then_taken (take size piece)))

-- with these bytes more it is over by an accepted BYE
abbrev pub IsLeft : (ℕ → Bool) → Stand → Stand → List ℕ → Option (List ℕ) → Option (List ℕ) → List ℕ → Type 0
IsLeft clock old new kept taken then_taken more = Serves clock old kept taken (λ start ahead begun bytes. Left clock start begun then_taken new.sight (cut_of (bytes ++ more)).whole)

-- with these bytes more its text was cut off
abbrev pub IsCut : (ℕ → Bool) → Stand → Stand → List ℕ → Option (List ℕ) → Option (List ℕ) → List ℕ → Type 0
IsCut clock old new kept taken then_taken more = Serves clock old kept taken (λ start ahead begun bytes. CutOff clock start ahead begun then_taken new.sight (cut_of (bytes ++ more)).whole)

-- at the input's end all lines are replied to, the begun one too
abbrev pub EndsWritten : (ℕ → Bool) → Stand → Stand → List ℕ → Option (List ℕ) → Option (List ℕ) → Type 0
EndsWritten clock old new kept taken then_taken = Serves clock old kept taken (λ start ahead begun bytes. Written clock start begun then_taken new.sight (lines_of bytes))

-- at the input's end their text was cut off
abbrev pub EndsCut : (ℕ → Bool) → Stand → Stand → List ℕ → Option (List ℕ) → Option (List ℕ) → Type 0
EndsCut clock old new kept taken then_taken = Serves clock old kept taken (λ start ahead begun bytes. CutOff clock start ahead begun then_taken new.sight (lines_of bytes))
