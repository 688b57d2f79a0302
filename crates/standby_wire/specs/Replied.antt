-- What was asked, and what was replied, one after another.
use Rattle.std.specs.Prelude.{◌≡◌, ℕ, ◌-◌, ◌≤◌, List, [], ◌∷◌, ◌++◌, length, Option, Result, Ok, Err}
use Rattle.outside.specs.Faults.{Rose}
use Rattle.outside.specs.Flow.{Flow, Gives}
use Rattle.standby_wire.specs.Replies.{reply_to}
use Rattle.standby_wire.specs.Taking.{Pending, moved_on, Waits}
use Rattle.standby_wire.specs.declared.reply.Question.{Question}
use Rattle.standby_wire.specs.declared.reply.Reply.{Reply}
use Rattle.standby_wire.specs.declared.inbox.WaitFault.{WaitFault}
use Rattle.standby_wire.specs.declared.inbox.WaitFault.TheVariants.{SourceFault}

-- a question, the offset in the input at which its reply was due, and that reply
pub record Replied : Type 0 where
  pub question : Question
  pub due : ℕ
  pub reply : Reply

-- The input, of which the first byte has this offset, begins with these replies, and then this is left.
abbrev pub AreRead : ℕ → List Replied → List ℕ → Pending → Type 0
AreRead at [] input left = left ≡ record { bytes = input; due = at }
AreRead at (replied ∷ others) input left =
    (behind : List ℕ) × (replied.due ≡ at) × (reply_to replied.question input ≡ Ok (replied.reply, behind))
    × AreRead (moved_on at (length input - length behind)) others behind left

-- what was replied, what was taken and belongs to no reply yet, and the source at first
pub record HeardView : Type 0 where
  pub replied : List Replied
  pub pending : Pending
  pub first : Option Flow
  pub first_faults : ℕ

-- the same, and the source now
pub record HearingView : Type 0 where
  pub replied : List Replied
  pub pending : Pending
  pub first : Option Flow
  pub flow : Option Flow
  pub first_faults : ℕ
  pub faults : ℕ

abbrev pub hearing_over : HeardView → Option Flow → ℕ → HearingView
hearing_over heard flow faults = record {
  replied = heard.replied;
  pending = heard.pending;
  first = heard.first;
  flow = flow;
  first_faults = heard.first_faults;
  faults = faults;
}

-- The source gave the replies and what is pending, and nothing else.
pub record IsHearing (view : HearingView) : Type 0 where
  pub taken : List ℕ
  pub gives : Gives view.first view.flow taken
  pub read : AreRead 0 view.replied taken view.pending
  pub never_falls : view.first_faults ≤ view.faults

-- the same source, from its start on
pub record IsSameSource (old new : HearingView) : Type 0 where
  pub first : new.first ≡ old.first
  pub first_faults : new.first_faults ≡ old.first_faults
  pub never_falls : old.faults ≤ new.faults

-- what is noted of a question whose reply was due at an offset
abbrev pub noted : Question → ℕ → Result Reply WaitFault → List Replied
noted question due (Ok reply) = record { question = question; due = due; reply = reply } ∷ []
noted question due (Err fault) = []

-- From old to new, a question was asked and came to this: no more was taken than that needs, and a reply is noted.
pub record Hears (question : Question) (old new : HearingView) (result : Result Reply WaitFault) : Type 0 where
  pub waits : Waits question old.pending new.pending old.flow new.flow result
  pub notes : new.replied ≡ old.replied ++ noted question old.pending.due result
  pub failed : result ≡ Err SourceFault → Rose old.faults new.faults
