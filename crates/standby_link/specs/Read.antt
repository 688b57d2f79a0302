-- Replies as a wire reads them.
use Rattle.std.specs.Prelude.{◌≡◌, ℕ, ◌+◌, ◌-◌, ◌^◌, ◌≤◌, min, List, [], ◌∷◌, ◌++◌, Option, Some, None, Result, Ok, Err}
use Rattle.outside.specs.Faults.{Rose}
use Rattle.outside.specs.declared.failed.Failed.{Failed}
use Rattle.standby_wire.specs.Replies.{reply_to}
use Rattle.standby_wire.specs.Replied.{Replied, HearingView}
use Rattle.standby_wire.specs.Taking.{IsNone}
use Rattle.standby_wire.specs.declared.stop.Stop.TheVariants.{More}
use Rattle.standby_wire.specs.declared.reply.Question.{Question}
use Rattle.standby_wire.specs.declared.reply.Question.TheVariants as questions
use Rattle.standby_wire.specs.declared.reply.Reply.{Reply}
use Rattle.standby_wire.specs.declared.reply.Reply.TheVariants as replies
use Rattle.standby.specs.Ending.{Came}
use Rattle.standby.specs.Link.{Offer}
use Rattle.standby.specs.declared.peer.Heard.{Heard}
use Rattle.standby.specs.declared.peer.Heard.TheVariants as hears

-- the place behind a position, which stands still at the largest number
abbrev pub place_behind : ℕ → ℕ
place_behind position = min (position + 1) (2 ^ 64 - 1)

-- the entry that a reply to a NEXT has, at its place
abbrev pub offered : Question → Reply → List Offer
offered (questions.Next position) (replies.Entry entry) = record { position = place_behind position; entry = entry } ∷ []
offered question reply = []

-- the entries of these replies
abbrev pub offers_of : List Replied → List Offer
offers_of [] = []
offers_of (replied ∷ others) = offered replied.question replied.reply ++ offers_of others

-- The last of these replies, which was due at this offset, is this one to a NEXT of this position.
pub record EndWith (replied : List Replied) (position due : ℕ) (reply : Reply) : Type 0 where
  pub front : List Replied
  pub is : replied ≡ front ++ record { question = questions.Next position; due = due; reply = reply } ∷ []

-- the bytes from this offset on are no reply to this question
abbrev pub IsBroken : Question → HearingView → ℕ → Type 0
IsBroken question hearing at = (at ≡ hearing.pending.due) × IsNone (reply_to question hearing.pending.bytes) hearing.flow

-- the source failed where more was due
abbrev pub IsUnheard : Question → HearingView → Type 0
IsUnheard question hearing = (reply_to question hearing.pending.bytes ≡ Err More) × Rose hearing.first_faults hearing.faults

-- what a NEXT of this position came to is what was read where its reply was due
abbrev pub IsCause : HearingView → ℕ → Result Heard Failed → Type 0
IsCause hearing position (Ok (hears.Entry due at entry)) = EndWith hearing.replied position due (replies.Entry entry) × (at ≡ place_behind position)
IsCause hearing position (Ok hears.Nothing) = (due : ℕ) × EndWith hearing.replied position due replies.Nothing
IsCause hearing position (Ok (hears.Refused number)) = (due : ℕ) × EndWith hearing.replied position due (replies.Refused number)
IsCause hearing position (Ok (hears.Broken at)) = IsBroken (questions.Next position) hearing at
IsCause hearing position (Ok hears.Memory) = Unit {0}
IsCause hearing position (Err failed) = IsUnheard (questions.Next position) hearing

abbrev pub IsLast : HearingView → Option Came → Type 0
IsLast hearing None = Unit {0}
IsLast hearing (Some came) = IsCause hearing came.position came.heard

-- From one moment to a later one, a source gave more replies.
pub record HearsMore (old new : HearingView) : Type 0 where
  pub more : List Replied
  pub is : new.replied ≡ old.replied ++ more
  pub first : new.first ≡ old.first
  pub first_faults : new.first_faults ≡ old.first_faults
  pub never_falls : old.faults ≤ new.faults
