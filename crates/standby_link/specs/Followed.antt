-- What following over a source and a sink comes to.
use Rattle.std.specs.Prelude.{◌≡◌, ◌⊎◌, ℕ, ◌<◌, ◌≤◌, false, List, [], ◌∷◌, ◌++◌, All, Option, Some, None}
use Rattle.command_types.specs.declared.ask.Entry.{Entry}
use Rattle.command_types.specs.History.{end_of}
use Rattle.command_types.specs.Roster.{Rows}
use Rattle.outside.specs.Faults.{Rose}
use Rattle.outside.specs.Flow.{Flow, Takes, TakesFront}
use Rattle.outside.specs.declared.sink.Sink.{Ghosts as SinkTells}
use Rattle.outside.specs.declared.source.Source.{Ghosts as SourceTells}
use Rattle.house.specs.House.{HouseView}
use Rattle.house.specs.Storing.{LeavesHistory}
use Rattle.standby_wire.specs.Lines.{hello_line}
use Rattle.standby_wire.specs.Replied.{Replied, HearingView, IsHearing}
use Rattle.standby_wire.specs.declared.reply.Question.TheVariants as questions
use Rattle.standby_wire.specs.declared.reply.Reply.{Reply}
use Rattle.standby_wire.specs.declared.reply.Reply.TheVariants as replies
use Rattle.standby.specs.Following.{FollowsTo, HeldSince, IsLinked}
use Rattle.standby.specs.Link.{World}
use Rattle.standby.specs.Lists.{IsHistoryOf}
use Rattle.standby.specs.Sent.{Sent, numbers_in}
use Rattle.standby.specs.declared.peer.Said.TheVariants.{Next}
use Rattle.standby.specs.Ending.{SaysLines, Declines, is_cut_by}
use Rattle.standby.specs.declared.follow.FollowEnd.{FollowEnd}
use Rattle.standby.specs.declared.follow.FollowEnd.TheVariants.{Caught, Refused, Broken, Full, SourceFault, SinkFault, DiskFault, Memory}
use Rattle.standby_link.specs.Compared.{Compares}
use Rattle.standby_link.specs.Read.{offers_of, EndWith, IsBroken, IsUnheard}
use Rattle.standby_link.specs.Wire.{WireView, IsWire}
use Rattle.standby_link.specs.declared.login.Login.{Login}

-- what a source and a sink tell
pub record Streams : Type 0 where
  pub flow : Option Flow
  pub taken : Option (List ℕ)
  pub source_faults : ℕ
  pub sink_faults : ℕ

abbrev pub streams_by : {S K : Type 0} → SourceTells S → SinkTells K → S → K → Streams
streams_by sources sinks source sink =
    record { flow = sources.flow source; taken = sinks.taken sink; source_faults = sources.faults source; sink_faults = sinks.faults sink }

-- the source as it was, of which nothing was heard yet
pub record IsFresh (source : Streams) (hearing : HearingView) : Type 0 where
  pub first : hearing.first ≡ source.flow
  pub first_faults : hearing.first_faults ≡ source.source_faults

-- ---- the greeting

-- one reply was heard, the first, and it was to a HELLO
abbrev pub IsAnswered : Login → HearingView → Reply → Type 0
IsAnswered login hearing reply = hearing.replied ≡ record { question = questions.Hello login.name; due = 0; reply = reply } ∷ []

-- Why nobody greeted, if nobody did: what is read of the reply to a HELLO, or that it could not be written or read.
abbrev pub IsGreeting : Login → HearingView → ℕ → ℕ → Option FollowEnd → Type 0
IsGreeting login hearing before after None = IsAnswered login hearing replies.Greeted
IsGreeting login hearing before after (Some (Refused number)) = IsAnswered login hearing (replies.Refused number)
IsGreeting login hearing before after (Some (Broken at)) = (hearing.replied ≡ []) × IsBroken (questions.Hello login.name) hearing at
IsGreeting login hearing before after (Some SourceFault) = (hearing.replied ≡ []) × IsUnheard (questions.Hello login.name) hearing
IsGreeting login hearing before after (Some SinkFault) = (hearing.replied ≡ []) × Rose before after
IsGreeting login hearing before after (Some Memory) = hearing.replied ≡ []
IsGreeting login hearing before after (Some end) = ⊥

-- From before to after, the sink took a HELLO, or a front of it where it failed.
abbrev pub Greets : Login → Option (List ℕ) → Option (List ℕ) → Option FollowEnd → Type 0
Greets login before after (Some SinkFault) = TakesFront before after (hello_line login.name login.key)
Greets login before after end = Takes before after (hello_line login.name login.key)

-- Nobody greeted, and the house is as it was.
pub record Ungreeted (login : Login) (first now : Streams) (old new : HouseView) (end : FollowEnd) : Type 0 where
  pub hearing : HearingView
  pub fresh : IsFresh first hearing
  pub flow : now.flow ≡ hearing.flow
  pub source_faults : now.source_faults ≡ hearing.faults
  pub heard : IsHearing hearing
  pub greets : Greets login first.taken now.taken (Some end)
  pub why : IsGreeting login hearing first.sink_faults now.sink_faults (Some end)
  pub same : new ≡ old

-- ---- the end

-- The last reply, which was due at this offset, is an entry at the next position, and a house of this history did not take it.
pub record IsUntaken (house : HouseView) (hearing : HearingView) (due : ℕ) (end : FollowEnd) : Type 0 where
  pub entry : Entry
  pub heard : EndWith hearing.replied (end_of house.history) due (replies.Entry entry)
  pub old : HouseView
  pub same : old.history ≡ house.history
  pub declines : Declines old house due entry end

-- why following ended, by what was read last; that a line was cut, or that there was no memory, is told by others
abbrev pub EndsFor : HouseView → HearingView → FollowEnd → Type 0
EndsFor house hearing Caught = (due : ℕ) × EndWith hearing.replied (end_of house.history) due replies.Nothing
EndsFor house hearing (Refused number) = (due : ℕ) × EndWith hearing.replied (end_of house.history) due (replies.Refused number)
EndsFor house hearing (Broken at) = IsBroken (questions.Next (end_of house.history)) hearing at ⊎ IsUntaken house hearing at (Broken at)
EndsFor house hearing (Full size) = (due : ℕ) × IsUntaken house hearing due (Full size)
EndsFor house hearing DiskFault = (due : ℕ) × IsUntaken house hearing due DiskFault
EndsFor house hearing SourceFault = IsUnheard (questions.Next (end_of house.history)) hearing
EndsFor house hearing SinkFault = Unit {0}
EndsFor house hearing Memory = Unit {0}

-- A primary greeted: what was written is HELLO and the lines that were said, and what was heard is read from what the source gave.
pub record Greeted (login : Login) (first now : Streams) (end : FollowEnd) : Type 0 where
  pub wire : WireView
  pub is : IsWire wire
  pub party : wire.start.login ≡ login
  pub fresh : IsFresh first wire.start.hearing
  pub answered : IsAnswered login wire.start.hearing replies.Greeted
  pub greets : Takes first.taken wire.start.taken (hello_line login.name login.key)
  pub falls : first.sink_faults ≤ wire.start.sink_faults
  pub flow : now.flow ≡ wire.hearing.flow
  pub source_faults : now.source_faults ≡ wire.hearing.faults
  pub taken : now.taken ≡ wire.taken
  pub sink_faults : now.sink_faults ≡ wire.sink_faults
  pub cut : wire.cut ≡ is_cut_by false (Some end)

-- When this was said, what a crash left stood for all entries, and it asks for one of them again; ever since, what a crash leaves
-- stands for at least these.
pub record IsSaidWithin (now : HouseView) (sent : Sent) : Type 0 where
  pub position : ℕ
  pub line : sent.line ≡ Next position
  pub fewer : position < end_of sent.house.history
  pub running : sent.house.kept ≡ []
  pub has : LeavesHistory sent.house.disk sent.house.history
  pub since : HeldSince sent.house now

-- Behind the greeting these lines were said before the house followed, and these replies read. Each is tied to the disk, and is an event of the link.
pub record Begins (login : Login) (old new : HouseView) (hearing : HearingView) (said : List Sent) (replied : List Replied) (end : Option FollowEnd) : Type 0 where
  pub compares : Compares login old hearing said replied end
  pub before : All (IsSaidWithin new) said
  pub linked : (roster : Rows) (w : World) → IsHistoryOf roster old.history w.standby → IsLinked roster old old (numbers_in said) w

-- Greeted, a standby asked for its last entry again, or had no memory for that, and ended there; its house is as it was.
pub record Parted (login : Login) (first now : Streams) (old new : HouseView) (end : FollowEnd) : Type 0 where
  pub greeted : Greeted login first now end
  pub replied : List Replied
  pub reads : greeted.wire.hearing.replied ≡ greeted.wire.start.hearing.replied ++ replied
  pub begins : Begins login old new greeted.wire.hearing greeted.wire.said replied (Some end)
  pub same : new ≡ old

-- Greeted, and having compared its last entry if it does, a standby followed the primary: each entry taken was heard, and the end has its cause.
pub record Followed (login : Login) (first now : Streams) (old new : HouseView) (end : FollowEnd) : Type 0 where
  pub greeted : Greeted login first now end
  pub asked : List Sent
  pub hearing : HearingView
  pub fresh : IsFresh first hearing
  pub heard : IsHearing hearing
  pub replied : List Replied
  pub reads : hearing.replied ≡ greeted.wire.start.hearing.replied ++ replied
  pub begins : Begins login old new hearing asked replied None
  pub follows : FollowsTo old new asked greeted.wire.said (offers_of hearing.replied) (offers_of greeted.wire.hearing.replied) (Some end)
  pub lines : SaysLines old new asked greeted.wire.said (Some end)
  pub why : EndsFor new greeted.wire.hearing end

-- From old to new, a house followed a primary over a source and a sink, as this party.
abbrev pub FollowsOver : Login → Streams → Streams → HouseView → HouseView → FollowEnd → Type 0
FollowsOver login first now old new end =
    Ungreeted login first now old new end ⊎ Parted login first now old new end ⊎ Followed login first now old new end

-- a fault of the source or of the sink is told only where its count rose
abbrev pub IsCounted : Streams → Streams → FollowEnd → Type 0
IsCounted first now SourceFault = Rose first.source_faults now.source_faults
IsCounted first now SinkFault = Rose first.sink_faults now.sink_faults
IsCounted first now end = Unit {0}
