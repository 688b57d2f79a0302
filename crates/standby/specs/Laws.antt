-- The laws of a standby.
use Rattle.std.specs.Prelude.{◌≡◌, ℕ, List, [], ◌++◌, length, All, Some}
use Rattle.std.specs.List.{Contains}
use Rattle.command_types.specs.declared.ask.Entry.{Entry}
use Rattle.command_types.specs.Folds.{folded}
use Rattle.command_types.specs.History.{History, end_of}
use Rattle.command_types.specs.Roster.{Rows}
use Rattle.outside.specs.Disk as disks
use Rattle.outside.specs.Disk.{left_since}
use Rattle.house.specs.House.{HouseView, Keeps}
use Rattle.house.specs.Storing.{moment_of}
use Rattle.standby.specs.Lists.{IsHistoryOf, StandsForList, BeginsWith}
use Rattle.standby.specs.Link.{Offer, Event, World, Lead, opening, AreAtMost, AreAmong, moved, IsSound}
use Rattle.standby.specs.Sent.{Sent, number_in, numbers_in}
use Rattle.standby.specs.Following.{Follows}

-- Whatever is lost, repeated, reordered or stopped, the primary's entries begin with the standby's, which are at least as many as
-- each number that was sent.
abbrev pub StandbyHoldsAPrefix : Type 0
StandbyHoldsAPrefix =
    (events : List Event) (entries : List Entry) (w : World) → Lead events (opening entries) w
    → BeginsWith w.primary w.standby × AreAtMost (length w.standby) w.asked

-- The primary loses nothing: what it had it still has.
abbrev pub PrimaryGrows : Type 0
PrimaryGrows = (events : List Event) (old new : World) → Lead events old new → BeginsWith new.primary old.primary

-- A fold keeps the list of all entries, and with it every position.
abbrev pub FoldsKeepTheList : Type 0
FoldsKeepTheList =
    (roster : Rows) (h : History) (entries : List Entry) → IsHistoryOf roster h entries
    → IsHistoryOf roster (folded h) entries × (end_of h ≡ length entries)

-- The same from any world in which it is so.
abbrev pub WorldsStaySound : Type 0
WorldsStaySound = (events : List Event) (old new : World) → IsSound old → Lead events old new → IsSound new

-- What a crash leaves of a standby's journal at any moment since a line was said stands for a list with which the primary's begins,
-- and which has at least as many entries as the line says.
abbrev pub JournalHoldsAPrefix : Type 0
JournalHoldsAPrefix =
    (old new : HouseView) (said said' : List Sent) (heard heard' : List Offer) (f : Follows old new said said' heard heard')
    (roster : Rows) (w : World) → IsSound w → IsHistoryOf roster old.history w.standby → AreAmong f.offers w.sent
    → (sent : Sent) → Contains f.sends sent → (now : disks.History) → new.disk ≡ Some now
    → (image : List ℕ) → left_since now (moment_of sent.house.disk) image
    → (entries : List Entry) × StandsForList image entries × BeginsWith w.primary entries × AreAtMost (length entries) (number_in sent.line)

-- A crash at any moment of following, after some of the lines were said, leaves a world that is sound again, with all that was said
-- by then: the standby has the list for which the image stands.
abbrev pub CrashesKeepWorldsSound : Type 0
CrashesKeepWorldsSound =
    (old new : HouseView) (said said' : List Sent) (heard heard' : List Offer) (f : Follows old new said said' heard heard')
    (roster : Rows) (w : World) → IsSound w → IsHistoryOf roster old.history w.standby → AreAmong f.offers w.sent
    → Keeps old → old.kept ≡ []
    → (first others : List Sent) → f.sends ≡ first ++ others → (now : disks.History) → new.disk ≡ Some now
    → (image : List ℕ) → left_since now (moment_of old.disk) image → All (λ sent. left_since now (moment_of sent.house.disk) image) first
    → (entries : List Entry) × StandsForList image entries × IsSound (moved w entries (numbers_in first))
