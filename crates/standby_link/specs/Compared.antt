-- A standby's last entry, asked for again, and what the question comes to.
use Rattle.std.specs.Prelude.{◌≡◌, ◌≢◌, ◌⊎◌, ℕ, ◌+◌, ◌==◌, true, false, List, [], ◌∷◌, ◌++◌, length, Option, Some, None, Result, Ok, Err, if◌then◌else◌}
use Rattle.command_types.specs.declared.answer.Answer.{Answer}
use Rattle.command_types.specs.declared.answer.Answer.TheVariants.{EntryBytes, No}
use Rattle.command_types.specs.declared.ask.Entry.{Entry}
use Rattle.command_types.specs.declared.refusal.Refusal.TheVariants.{Memory as NoMemory}
use Rattle.command_types.specs.declared.spelling.Spelling.TheVariants.{Second}
use Rattle.command_types.specs.Roster.{is_operator}
use Rattle.command_types.specs.Spelling.{spelling}
use Rattle.house.specs.House.{HouseView}
use Rattle.standby_wire.specs.Replied.{Replied, HearingView}
use Rattle.standby_wire.specs.declared.inbox.WaitFault.{WaitFault}
use Rattle.standby_wire.specs.declared.inbox.WaitFault.TheVariants as faults
use Rattle.standby_wire.specs.declared.reply.Question.TheVariants as questions
use Rattle.standby_wire.specs.declared.reply.Reply.{Reply}
use Rattle.standby_wire.specs.declared.reply.Reply.TheVariants as replies
use Rattle.standby.specs.Sent.{Sent}
use Rattle.standby.specs.declared.peer.Said.TheVariants.{Next}
use Rattle.standby.specs.declared.follow.FollowEnd.{FollowEnd}
use Rattle.standby.specs.declared.follow.FollowEnd.TheVariants.{Refused, Broken, SourceFault, SinkFault, Memory}
use Rattle.standby_link.specs.Read.{IsBroken, IsUnheard}
use Rattle.standby_link.specs.declared.login.Login.{Login}
use Rattle.standby_link.specs.declared.comparing.TheConstants.{GONE}
use Rattle.standby_link.specs.declared.comparing.Last.{Last}
use Rattle.standby_link.specs.declared.comparing.Last.TheVariants.{Entry as Told, Nothing, Memory as NoRoom}

-- The last entry of a house, which stands behind this position and behind the base, is spelled by these bytes.
pub record IsLastOf (house : HouseView) (position : ℕ) (bytes : List ℕ) : Type 0 where
  pub front : List Entry
  pub entry : Entry
  pub split : house.history.entries ≡ front ++ entry ∷ []
  pub place : position ≡ house.history.base.position + length front
  pub spells : bytes ≡ spelling Second entry

-- what an answer to a NEXT of this position tells of the entry behind it
abbrev pub last_in : ℕ → Answer → Last
last_in position (EntryBytes at bytes) = Told (record { position = position; bytes = bytes })
last_in position (No NoMemory) = NoRoom
last_in position answer = Nothing

-- there is no entry behind the base, or the house does not tell it to this party, which is no operator
abbrev pub HasNone : HouseView → List ℕ → Type 0
HasNone house name = (house.history.entries ≡ []) ⊎ (is_operator house.history.base.state.roster name ≡ false)

-- what a house tells of its last entry is right
abbrev pub IsToldLast : HouseView → List ℕ → Last → Type 0
IsToldLast house name (Told own) = IsLastOf house own.position own.bytes
IsToldLast house name Nothing = HasNone house name
IsToldLast house name NoRoom = Unit {0}

-- a reply that may stand behind the question for an entry again
abbrev pub IsAgain : Reply → Type 0
IsAgain (replies.Refused number) = Unit {0}
IsAgain replies.Same = Unit {0}
IsAgain reply = ⊥

-- why following ends by what that question came to, if it does
abbrev pub end_asked : Result Reply WaitFault → Option FollowEnd
end_asked (Ok (replies.Refused number)) = if number == GONE then None else Some (Refused number)
end_asked (Ok reply) = None
end_asked (Err (faults.Broken at)) = Some (Broken at)
end_asked (Err faults.SourceFault) = Some SourceFault
end_asked (Err faults.Memory) = Some Memory

-- what was replied, one behind another, is this reply to the question for the entry with these bytes
abbrev pub AreReply : ℕ → List ℕ → List Replied → Reply → Type 0
AreReply position bytes replied reply = (due : ℕ) × (replied ≡ record { question = questions.Again position bytes; due = due; reply = reply } ∷ [])

-- What was replied to that question, by why following ends there; it goes on where the primary has the same entry, or only entries behind it.
abbrev pub ComesTo : ℕ → List ℕ → HearingView → List Replied → Option FollowEnd → Type 0
ComesTo position bytes hearing replied None = AreReply position bytes replied replies.Same ⊎ AreReply position bytes replied (replies.Refused GONE)
ComesTo position bytes hearing replied (Some (Refused number)) = (number ≢ GONE) × AreReply position bytes replied (replies.Refused number)
ComesTo position bytes hearing replied (Some (Broken at)) = (replied ≡ []) × IsBroken (questions.Again position bytes) hearing at
ComesTo position bytes hearing replied (Some SourceFault) = (replied ≡ []) × IsUnheard (questions.Again position bytes) hearing
ComesTo position bytes hearing replied (Some SinkFault) = replied ≡ []
ComesTo position bytes hearing replied (Some Memory) = replied ≡ []
ComesTo position bytes hearing replied (Some end) = ⊥

-- The entry behind a position was asked for again, by one line, and it came to this; or there was no memory for the line.
abbrev pub IsSaidAgain : HouseView → ℕ → List ℕ → HearingView → List Sent → List Replied → Option FollowEnd → Type 0
IsSaidAgain house position bytes hearing said replied end =
    ((said ≡ []) × (replied ≡ []) × (end ≡ Some Memory))
    ⊎ ((said ≡ record { house = house; line = Next position } ∷ []) × ComesTo position bytes hearing replied end)

-- The last entry of a house was asked for again, by one line, and it came to this.
pub record AsksAgain (house : HouseView) (hearing : HearingView) (said : List Sent) (replied : List Replied) (end : Option FollowEnd) : Type 0 where
  pub position : ℕ
  pub bytes : List ℕ
  pub last : IsLastOf house position bytes
  pub one : said ≡ record { house = house; line = Next position } ∷ []
  pub came : ComesTo position bytes hearing replied end

-- why it was not: nothing is compared, or there was no memory
abbrev pub IsUnasked : Login → HouseView → Option FollowEnd → Type 0
IsUnasked login house None = (login.compare ≡ false) ⊎ HasNone house login.name
IsUnasked login house (Some Memory) = Unit {0}
IsUnasked login house (Some end) = ⊥

-- The lines that a standby of this house says between the greeting and following, the replies to them, and why it ends there, if it does.
abbrev pub Compares : Login → HouseView → HearingView → List Sent → List Replied → Option FollowEnd → Type 0
Compares login house hearing said replied end =
    ((said ≡ []) × (replied ≡ []) × IsUnasked login house end) ⊎ ((login.compare ≡ true) × AsksAgain house hearing said replied end)
