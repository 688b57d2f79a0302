-- What a replay writes: the rows of each member, and the executions, by the history alone.
use Rattle.std.specs.Prelude.{◌≡◌, ℕ, ◌+◌, ◌-◌, List, [], ◌∷◌, ◌++◌, length, drop, Option}
use Rattle.outside.specs.Disk as disks
use Rattle.outside.specs.Faults.{Rose}
use Rattle.outside.specs.Flow.{Takes, TakesFront}
use Rattle.command_types.specs.declared.ask.Entry.{Entry}
use Rattle.command_types.specs.Books.{listed_below}
use Rattle.command_types.specs.Details.{lines_text, trade_line}
use Rattle.command_types.specs.History.{History, IsLegal, end_of}
use Rattle.command_types.specs.Roster.{Rows}
use Rattle.cycle_laws.specs.Bases.{IsWritable}
use Rattle.trade_history.specs.Book.{ExecutionRow, own_rows, executions_of}
use Rattle.statements.specs.Details.{member_text, execution_text, moment_text}
use Rattle.house.specs.Storing.{ContentStandsFor}
use Rattle.house.specs.Opening.{FindsFault}
use Rattle.journal_core.specs.declared.fault.JournalFault.{JournalFault}
use Rattle.journal_core.specs.declared.fault.JournalFault.TheVariants as faults
use Rattle.compress_server.specs.declared.ending.End.{End}
use Rattle.compress_server.specs.declared.ending.End.TheVariants as ends
use Rattle.compress_server.specs.declared.replay.ReplayEnd.{ReplayEnd}
use Rattle.compress_server.specs.declared.replay.ReplayEnd.TheVariants.{Done, Unloaded, Unread, SinkFault, Memory}
use Rattle.compress_server.specs.Files.{FilesState, OverRoster, IsRosterUnread}
use Rattle.compress_server.specs.Housed.{DiskState}
use Rattle.compress_server.specs.Seen.{OutputState}
use Rattle.compress_server.specs.Statuses.{load_end, journal_end}
use Rattle.compress_server.specs.Told.{end_text}

-- the end of the call
abbrev pub replay_end : ReplayEnd → End
replay_end Done = ends.Done
replay_end (Unloaded fault) = load_end fault
replay_end (Unread fault) = journal_end fault
replay_end SinkFault = ends.SinkFault
replay_end Memory = ends.Memory

-- the status beside 0, 3 and 9 that may come where nothing outside fails: a damaged journal
abbrev pub replay_statuses : List ℕ
replay_statuses = 7 ∷ []

-- a member, and the trades in which it has a side, in rising number
abbrev pub rows_text : Rows → History → ℕ → List ℕ
rows_text rows h member = member_text rows member (length (own_rows h member)) ++ lines_text (trade_line rows) (own_rows h member)

-- the moment of the first of these changes
abbrev pub first_moment : List Entry → ℕ
first_moment [] = 0
first_moment (entry ∷ entries) = entry.ask.moment

-- the moment of the change that led to a position behind the history's base
abbrev pub moment_at : History → ℕ → ℕ
moment_at h position = first_moment (drop (position - (h.base.position + 1)) h.entries)

-- an execution, and the moment of the change that it came with
abbrev pub execution_line : History → ExecutionRow → List ℕ
execution_line h row =
    execution_text (record { position = row.position; cycle = row.cycle; version = row.version; ended = row.ended; cut = row.cut; made = row.made })
    ++ moment_text (moment_at h row.position)

-- each member with its rows, then each execution since the base with its moment, then the length of the history
abbrev pub replay_text : Rows → History → List ℕ
replay_text rows h = listed_below (length rows.members) (rows_text rows h) ++ (lines_text (execution_line h) (executions_of h) ++ end_text (end_of h))

-- the disk's content stands for this history, which is legal, and begins where one of these rows may begin
pub record IsKept (rows : Rows) (disk : Option disks.History) (h : History) : Type 0 where
  pub base : IsWritable rows h.base.state
  pub legal : IsLegal h
  pub stands : ContentStandsFor disk h

-- the whole text of what the disk keeps was written
abbrev pub Replays : Rows → DiskState → Option (List ℕ) → Option (List ℕ) → Type 0
Replays rows disk begun taken = (h : History) × IsKept rows disk.history h × Takes begun taken (replay_text rows h)

-- a front of it was
abbrev pub ReplaysFront : Rows → DiskState → Option (List ℕ) → Option (List ℕ) → Type 0
ReplaysFront rows disk begun taken = (h : History) × IsKept rows disk.history h × TakesFront begun taken (replay_text rows h)

-- Why nothing was read of a disk's journal, over these rows: damage is told only where the content stands for no legal history, with the one place that is told.
abbrev pub IsUnread : Rows → DiskState → DiskState → JournalFault → Type 0
IsUnread rows disk left (faults.Damaged place) = FindsFault rows disk.history (faults.Damaged place)
IsUnread rows disk left faults.DiskFault = Rose disk.faults left.faults
IsUnread rows disk left faults.Memory = Unit {0}

module _ (roster : List ℕ) (files files' : FilesState) (output output' : OutputState) (disk left : DiskState) where
  -- over the roster's rows this holds, and the disk holds what it held
  abbrev pub OverRows : (Rows → Type 0) → Type 0
  OverRows P = (left.history ≡ disk.history) × OverRoster files.folder roster P

  -- by the end of a replay, which writes nothing to the disk
  abbrev pub ReplayRuns : ReplayEnd → Type 0
  ReplayRuns Done = OverRows (λ rows. Replays rows disk output.taken output'.taken)
  ReplayRuns (Unloaded fault) = (output' ≡ output) × (left ≡ disk) × IsRosterUnread files files' roster fault
  ReplayRuns (Unread fault) = (output' ≡ output) × OverRows (λ rows. IsUnread rows disk left fault)
  ReplayRuns SinkFault = OverRows (λ rows. ReplaysFront rows disk output.taken output'.taken) × Rose output.faults output'.faults
  ReplayRuns Memory = (output' ≡ output) × OverRows (λ rows. Unit {0})
