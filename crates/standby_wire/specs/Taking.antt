-- How a standby waits for a reply: it reads what it has, and takes more only where that may go on to a reply.
use Rattle.std.specs.Prelude.{◌≡◌, ◌⊎◌, ℕ, ◌+◌, ◌-◌, ◌^◌, ◌<◌, ◌≤◌, min, Bool, true, false, List, [], ◌++◌, length, Option, Result, Ok, Err}
use Rattle.outside.specs.Flow.{Flow, Gives, IsAtEnd}
use Rattle.standby_wire.specs.declared.stop.Stop.{Stop}
use Rattle.standby_wire.specs.declared.stop.Stop.TheVariants.{More, Bad}
use Rattle.standby_wire.specs.Replies.{reply_to}
use Rattle.standby_wire.specs.declared.reply.Question.{Question}
use Rattle.standby_wire.specs.declared.reply.Reply.{Reply}
use Rattle.standby_wire.specs.declared.inbox.TheConstants.{PIECE}
use Rattle.standby_wire.specs.declared.inbox.WaitFault.{WaitFault}
use Rattle.standby_wire.specs.declared.inbox.WaitFault.TheVariants.{Broken, SourceFault, Memory}

-- the bytes that were taken and belong to no reply yet, and the offset in the input of the first of them
pub record Pending : Type 0 where
  pub bytes : List ℕ
  pub due : ℕ

-- an offset so many bytes on, which stands still at the largest number
abbrev pub moved_on : ℕ → ℕ → ℕ
moved_on due count = min (due + count) (2 ^ 64 - 1)

-- no reply that may stand there begins so, or the input ends before one does
abbrev pub IsNone : Result (Reply × List ℕ) Stop → Option Flow → Type 0
IsNone read after = (read ≡ Err Bad) ⊎ ((read ≡ Err More) × IsAtEnd after)

-- more was taken only where the bytes before the last piece, which is at most one call's, may go on to a reply
abbrev pub IsNeeded : Question → List ℕ → List ℕ → Type 0
IsNeeded question bytes taken =
    (taken ≡ [])
    ⊎ ((front : List ℕ) × (last : List ℕ) × (taken ≡ front ++ last) × (length last ≤ PIECE) × (reply_to question (bytes ++ front) ≡ Err More))

-- From old to now, a standby that waits for the reply to a question took what its source gave, and read nothing.
pub record IsWaiting (question : Question) (old now : Pending) (before after : Option Flow) : Type 0 where
  pub taken : List ℕ
  pub gives : Gives before after taken
  pub needed : IsNeeded question old.bytes taken
  pub has : now ≡ record { bytes = old.bytes ++ taken; due = old.due }

-- Of what there was, this is answered, by what is read of it.
abbrev pub IsAnswer : Result (Reply × List ℕ) Stop → Pending → Pending → Option Flow → Result Reply WaitFault → Type 0
IsAnswer read there new after (Ok reply) =
    (read ≡ Ok (reply, new.bytes)) × (new.due ≡ moved_on there.due (length there.bytes - length new.bytes))
IsAnswer read there new after (Err (Broken at)) = (new ≡ there) × (at ≡ there.due) × IsNone read after
IsAnswer read there new after (Err SourceFault) = (new ≡ there) × (read ≡ Err More)
IsAnswer read there new after (Err Memory) = new ≡ there

-- From old to new, a standby waited for the reply to a question.
pub record Waits (question : Question) (old new : Pending) (before after : Option Flow) (answer : Result Reply WaitFault) : Type 0 where
  pub there : Pending
  pub waits : IsWaiting question old there before after
  pub answers : IsAnswer (reply_to question there.bytes) there new after answer

-- A piece was taken, or the input had ended, or nothing was taken.
abbrev pub Fills : Pending → Pending → Option Flow → Option Flow → Result Bool WaitFault → Type 0
Fills old new before after (Ok true) =
    (piece : List ℕ) × Gives before after piece × (new ≡ record { bytes = old.bytes ++ piece; due = old.due }) × (0 < length piece) × (length piece ≤ PIECE)
Fills old new before after (Ok false) = Gives before after [] × (new ≡ old) × IsAtEnd after
Fills old new before after (Err (Broken at)) = ⊥
Fills old new before after (Err SourceFault) = (after ≡ before) × (new ≡ old)
Fills old new before after (Err Memory) = (after ≡ before) × (new ≡ old)
