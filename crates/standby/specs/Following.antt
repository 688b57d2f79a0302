-- From one moment to a later one, a standby followed a peer.
use Rattle.std.specs.Prelude.{◌≡◌, ◌≢◌, ◌⊎◌, ℕ, ◌+◌, ◌≤◌, List, [], ◌∷◌, ◌++◌, length, All, Bool, true, false, Option, Some, None, is_none}
use Rattle.command_types.specs.declared.ask.Entry.{Entry}
use Rattle.command_types.specs.declared.answer.Reply.{Reply}
use Rattle.command_types.specs.History.{end_of, longer, is_recorded}
use Rattle.command_types.specs.Roster.{Rows}
use Rattle.house.specs.Storing.{AreOnDisk, moment_of, LeavesHistory}
use Rattle.outside.specs.Faults.{Rose}
use Rattle.house.specs.House.{HouseView, figures_of, is_stopped, bytes_of, Keeps}
use Rattle.house.specs.Calling.{Calls, is_disk_fault}
use Rattle.standby.specs.Lists.{IsHistoryOf}
use Rattle.standby.specs.Link.{Offer, World, Event, Lead, AreAmong, moved}
use Rattle.standby.specs.Sent.{Sent, numbers_in}
use Rattle.standby.specs.declared.peer.Said.{Said}
use Rattle.standby.specs.declared.peer.Said.TheVariants.{Hello, Next, Bye}
use Rattle.standby.specs.declared.follow.FollowEnd.{FollowEnd}
use Rattle.standby.specs.declared.follow.FollowEnd.TheVariants.{Caught, SinkFault, DiskFault, Memory}

-- What a crash at any moment from the first on leaves stands for a front of the entries now, with at least as many as there
-- were then, or for all of them with all that was kept.
abbrev pub HeldSince : HouseView → HouseView → Type 0
HeldSince then now =
    AreOnDisk (moment_of then.disk) (length then.history.entries) then.history now.disk (bytes_of now) now.history now.kept

-- When this was said, what a crash left stood for all entries, and a NEXT names their number; ever since, what a crash leaves
-- stands for at least these.
pub record IsSaidBefore (now : HouseView) (sent : Sent) : Type 0 where
  pub line : (sent.line ≡ Hello) ⊎ (sent.line ≡ Next (end_of sent.house.history)) ⊎ (sent.line ≡ Bye)
  pub running : sent.house.kept ≡ []
  pub has : LeavesHistory sent.house.disk sent.house.history
  pub since : HeldSince sent.house now
  pub more : List Entry
  pub grows : now.history ≡ longer sent.house.history more

-- The standby's part in a world in which these replies were sent: some events lead to a world in which it has the entries of
-- the new house and has said these numbers, and all else is as it was.
pub record IsLinked (roster : Rows) (old new : HouseView) (numbers : List ℕ) (w : World) : Type 0 where
  pub events : List Event
  pub entries : List Entry
  pub leads : Lead events w (moved w entries numbers)
  pub stands : IsHistoryOf roster new.history entries

-- these entries, of which the first has this position
abbrev pub offers_from : ℕ → List Entry → List Offer
offers_from position [] = []
offers_from position (entry ∷ entries) = record { position = position; entry = entry } ∷ offers_from (position + 1) entries

-- From old to new, with what was said and heard in between.
pub record Follows (old new : HouseView) (said said' : List Sent) (heard heard' : List Offer) : Type 0 where
  pub sends : List Sent
  pub says : said' ≡ said ++ sends
  pub before : All (IsSaidBefore new) sends
  pub offers : List Offer
  pub hears : heard' ≡ heard ++ offers
  pub taken : List Entry
  -- what was heard is the entries taken, each at the next position, and at most one more
  pub rest : List Offer
  pub order : offers ≡ offers_from (end_of old.history + 1) taken ++ rest
  pub few : length rest ≤ 1
  pub grows : new.history ≡ longer old.history taken
  pub held : (start : HouseView) → length start.history.entries ≤ length old.history.entries → HeldSince start old → HeldSince start new
  pub keeps : Keeps new
  pub counted : old.faults ≤ new.faults
  pub figures : figures_of new ≡ figures_of old
  -- what was kept on a fault of the disk was heard, as the next entries
  pub kept : AreAmong (offers_from (end_of new.history + 1) new.kept) offers
  pub linked :
      (roster : Rows) (w : World) → IsHistoryOf roster old.history w.standby → AreAmong offers w.sent
      → IsLinked roster old new (numbers_in sends) w

-- following ended by a fault of the disk
abbrev pub tells_disk_fault : Option FollowEnd → Bool
tells_disk_fault (Some DiskFault) = true
tells_disk_fault end = false

-- A fault of the disk is told exactly where it stopped the house, and only where the count rose.
abbrev pub EndsSo : HouseView → HouseView → Option FollowEnd → Type 0
EndsSo old new (Some DiskFault) = Rose old.faults new.faults × (is_stopped new ≡ true)
EndsSo old new end = new.kept ≡ []

-- following goes on, or ended with all that the peer has
abbrev pub is_whole : Option FollowEnd → Bool
is_whole None = true
is_whole (Some Caught) = true
is_whole end = false

-- A line was said, at least in part, unless there was no memory.
abbrev pub SaysSo : HouseView → Said → List Sent → List Sent → Option FollowEnd → Type 0
SaysSo house line old new (Some Memory) = new ≡ old
SaysSo house line old new end = new ≡ old ++ record { house = house; line = line } ∷ []

-- why a line was not said whole, if it was not
abbrev pub IsSayEnd : Option FollowEnd → Type 0
IsSayEnd None = Unit {0}
IsSayEnd (Some SinkFault) = Unit {0}
IsSayEnd (Some Memory) = Unit {0}
IsSayEnd end = ⊥

-- The house was asked to make the change of an entry; it was made where nothing is told.
pub record TakesEntry (old new : HouseView) (entry : Entry) (end : Option FollowEnd) : Type 0 where
  pub reply : Reply
  pub calls : Calls old new entry.seat entry.ask reply
  pub made : is_recorded entry.ask.what reply.answer ≡ is_none end
  pub fault : is_disk_fault reply.answer ≡ tells_disk_fault end
  -- it is not told here that there is no more
  pub caught : is_whole end ≡ true → is_none end ≢ false

-- A standby followed a peer and came to this end; where it goes on, or has all, each entry that was heard was taken.
pub record FollowsTo (old new : HouseView) (said said' : List Sent) (heard heard' : List Offer) (end : Option FollowEnd) : Type 0 where
  pub follows : Follows old new said said' heard heard'
  pub whole : is_whole end ≡ true → follows.rest ≡ []
