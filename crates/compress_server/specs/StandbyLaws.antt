-- What becomes of a standby's journal, whatever its link loses, repeats and reorders.
use Rattle.std.specs.Prelude.{◌≡◌, ℕ, List, ◌++◌, All, Some}
use Rattle.command_types.specs.declared.ask.Entry.{Entry}
use Rattle.command_types.specs.Roster.{Rows}
use Rattle.outside.specs.Disk as disks
use Rattle.outside.specs.Disk.{left_since}
use Rattle.house.specs.House.{HouseView, first_of}
use Rattle.house.specs.Storing.{moment_of}
use Rattle.standby.specs.Link.{World, AreAmong, moved, IsSound}
use Rattle.standby.specs.Lists.{IsHistoryOf, StandsForList, BeginsWith}
use Rattle.standby.specs.Sent.{Sent, numbers_in}
use Rattle.standby.specs.declared.follow.FollowEnd.{FollowEnd}
use Rattle.standby_link.specs.Followed.{Followed}
use Rattle.compress_server.specs.Follow.{login_of, link_of, Follows}
use Rattle.compress_server.specs.Housed.{DiskState, AtAnyMoment, IsHoused}
use Rattle.compress_server.specs.Seen.{Streams}
use Rattle.program_words.specs.Words.{Standby}

-- The journal stood for a list with which a primary's begins, and the replies that a standby read were sent by that primary at some time: what a crash at any moment of the run leaves, its opening too, stands for such a list.
abbrev pub StandbysHoldPrefixes : Type 0
StandbysHoldPrefixes =
    (standby : Standby) (before after : Streams) (rows : Rows) (disk left : DiskState) (v w : HouseView) (end : FollowEnd)
    → IsHoused rows disk left v w → Follows standby before after left v w end → (f : Followed (login_of standby) (link_of before) (link_of after) v w end)
    → (world : World) → IsSound world → IsHistoryOf rows (first_of v.journal) world.standby → AreAmong f.follows.follows.offers world.sent
    → AtAnyMoment disk.history left.history (λ image. (entries : List Entry) × StandsForList image entries × BeginsWith world.primary entries)

-- What a crash leaves since the house was opened, after some lines were said, stands for at least as many entries as each number that was said by then; so the next run begins in a sound world.
abbrev pub StandbysLeaveSoundWorlds : Type 0
StandbysLeaveSoundWorlds =
    (standby : Standby) (before after : Streams) (rows : Rows) (disk left : DiskState) (v w : HouseView) (end : FollowEnd)
    → IsHoused rows disk left v w → Follows standby before after left v w end → (f : Followed (login_of standby) (link_of before) (link_of after) v w end)
    → (world : World) → IsSound world → IsHistoryOf rows (first_of v.journal) world.standby → AreAmong f.follows.follows.offers world.sent
    → (said others : List Sent) → f.greeted.wire.said ≡ said ++ others → (now : disks.History) → left.history ≡ Some now
    → (image : List ℕ) → left_since now (moment_of v.disk) image → All (λ sent. left_since now (moment_of sent.house.disk) image) said
    → (entries : List Entry) × StandsForList image entries × IsSound (moved world entries (numbers_in said))
