-- How a standby ends.
use Rattle.std.specs.Prelude.{◌≡◌, ℕ, List, [], ◌∷◌, Some}
use Rattle.house.specs.House.{HouseView, Keeps}
use Rattle.standby.specs.Following.{EndsSo}
use Rattle.standby.specs.declared.follow.FollowEnd.{FollowEnd}
use Rattle.standby.specs.declared.follow.FollowEnd.TheVariants as follows
use Rattle.standby_link.specs.Followed.{FollowsOver, IsCounted}
use Rattle.standby_link.specs.Followed as links
use Rattle.standby_link.specs.declared.login.Login.{Login}
use Rattle.compress_server.specs.declared.ending.End.{End}
use Rattle.compress_server.specs.declared.ending.End.TheVariants as ends
use Rattle.compress_server.specs.declared.following.StandbyEnd.{StandbyEnd}
use Rattle.compress_server.specs.declared.following.StandbyEnd.TheVariants.{Unloaded, Unopened, Followed}
use Rattle.compress_server.specs.Files.{FilesState, OverRoster, IsRosterUnread}
use Rattle.compress_server.specs.Housed.{DiskState, OpeningFails, OverJournal}
use Rattle.compress_server.specs.Seen.{Streams}
use Rattle.compress_server.specs.Statuses.{load_end, journal_end}
use Rattle.program_words.specs.Words.{Standby}

-- the end of the call
abbrev pub standby_end : StandbyEnd → End
standby_end (Unloaded fault) = load_end fault
standby_end (Unopened fault) = journal_end fault
standby_end (Followed follows.Caught) = ends.Done
standby_end (Followed (follows.Refused number)) = ends.PeerRefused number
standby_end (Followed (follows.Broken at)) = ends.PeerBroken at
standby_end (Followed (follows.Full size)) = ends.JournalFull size
standby_end (Followed follows.SourceFault) = ends.SourceFault
standby_end (Followed follows.SinkFault) = ends.SinkFault
standby_end (Followed follows.DiskFault) = ends.DiskFault
standby_end (Followed follows.Memory) = ends.Memory

-- the statuses beside 0, 3 and 9 that may come where nothing outside fails: a damaged journal, a primary that refused or said what may not stand there, a full journal
abbrev pub standby_statuses : List ℕ
standby_statuses = 7 ∷ 12 ∷ 13 ∷ 14 ∷ []

abbrev pub login_of : Standby → Login
login_of standby = record { name = standby.name; key = standby.key; compare = standby.compare }

-- the input and the output, as a link sees them
abbrev pub link_of : Streams → links.Streams
link_of streams = record {
  flow = streams.input.flow;
  taken = streams.output.taken;
  source_faults = streams.input.faults;
  sink_faults = streams.output.faults;
}

-- From v to w, a house followed a primary over the input and the output, up to this end, and this is left of its disk.
pub record Follows (standby : Standby) (before after : Streams) (left : DiskState) (v w : HouseView) (end : FollowEnd) : Type 0 where
  pub over : FollowsOver (login_of standby) (link_of before) (link_of after) v w end
  pub counted : IsCounted (link_of before) (link_of after) end
  pub ends : EndsSo v w (Some end)
  pub keeps : Keeps v
  pub disk : left.history ≡ w.disk

-- by the end of a standby
module _ (standby : Standby) (files files' : FilesState) (before after : Streams) (disk left : DiskState) where
  abbrev pub StandbyRuns : StandbyEnd → Type 0
  StandbyRuns (Unloaded fault) = (after ≡ before) × (left ≡ disk) × IsRosterUnread files files' standby.roster fault
  StandbyRuns (Unopened fault) = (after ≡ before) × OverRoster files.folder standby.roster (λ rows. OpeningFails rows disk left fault)
  StandbyRuns (Followed end) = OverJournal files.folder standby.roster disk left (λ v w. Follows standby before after left v w end)
