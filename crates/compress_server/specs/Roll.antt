-- What a roll writes: a journal with which the market of a kept history goes on over new rows.
use Rattle.std.specs.Prelude.{◌≡◌, ℕ, ◌+◌, ◌≤◌, Bool, List, [], ◌∷◌, length, Option, Some, Result, Ok, Err}
use Rattle.units_core.specs.Day.{DayParts}
use Rattle.outside.specs.Faults.{Rose}
use Rattle.outside.specs.Flow.{Takes, TakesFront}
use Rattle.command_types.specs.declared.base.Base.{Base}
use Rattle.command_types.specs.declared.spelling.Spelling.TheVariants.{Second}
use Rattle.command_types.specs.Bases.{Fits, base_in, base_spelling}
use Rattle.command_types.specs.History.{History, end_of, replayed}
use Rattle.command_types.specs.Roster.{Rows}
use Rattle.cycle_laws.specs.Bases.{IsWritable}
use Rattle.cycle_states.specs.BaseOf.{base_of}
use Rattle.period_roll.specs.declared.cause.Cause.{Cause}
use Rattle.period_roll.specs.Laws.{KeepsPosition}
use Rattle.period_roll.specs.Rolls.{rolled}
use Rattle.journal_core.specs.Holds.{limit}
use Rattle.recovery.specs.StandsFor.{StandsFor}
use Rattle.fresh_journal.specs.Journals.{begun_history, journal_of}
use Rattle.compress_server.specs.declared.ending.End.{End}
use Rattle.compress_server.specs.declared.ending.End.TheVariants as ends
use Rattle.compress_server.specs.declared.ending.Obstacle.{Obstacle}
use Rattle.compress_server.specs.declared.ending.Obstacle.TheVariants.{Market, Misfit, TooLong}
use Rattle.compress_server.specs.declared.rolling.RollEnd.{RollEnd}
use Rattle.compress_server.specs.declared.rolling.RollEnd.TheVariants.{Done, Unloaded, Unread, Unrolled, SinkFault, Memory}
use Rattle.compress_server.specs.declared.rolling.Unmade.{Unmade}
use Rattle.compress_server.specs.declared.rolling.Unmade.TheVariants as unmade
use Rattle.compress_server.specs.Cancelled.{rolled_past}
use Rattle.compress_server.specs.Files.{FilesState, OverRoster, IsRollUnread}
use Rattle.compress_server.specs.Housed.{DiskState}
use Rattle.compress_server.specs.Replay.{IsKept, IsUnread}
use Rattle.compress_server.specs.Seen.{OutputState}
use Rattle.compress_server.specs.Statuses.{load_end, journal_end}

-- the end of the call
abbrev pub roll_end : RollEnd → End
roll_end Done = ends.Done
roll_end (Unloaded fault) = load_end fault
roll_end (Unread fault) = journal_end fault
roll_end (Unrolled obstacle) = ends.Unrolled obstacle
roll_end SinkFault = ends.SinkFault
roll_end Memory = ends.Memory

-- the statuses beside 0, 3 and 9 that may come where nothing outside fails: a damaged journal, a refusal
abbrev pub roll_statuses : List ℕ
roll_statuses = 7 ∷ 15 ∷ []

-- what is written of the market at the end of a history; nothing where a cycle is open
abbrev pub last_base : History → Option Base
last_base h = base_of (end_of h) (replayed h)

-- the base with which the market of a history goes on over the new rows, or what keeps it from that
abbrev pub rolled_history : Rows → Rows → Option DayParts → History → Result Base Cause
rolled_history old new matured h = rolled old new matured (last_base h)

-- The text is the journal of the rolled base. Over the new rows it stands for a history that begins with that base and has no entries, and in which every member's net position is as before.
pub record IsRolled (old new : Rows) (matured : Option DayParts) (h : History) (text : List ℕ) : Type 0 where
  pub base : Base
  pub goes_on : rolled_history old new matured h ≡ Ok base
  pub nets : (product member : List ℕ) → KeepsPosition old new matured (replayed h).trades base.trades product member
  pub writable : IsWritable new (base_in new base).state
  pub spelled : text ≡ journal_of (base_spelling Second base)
  pub stands : StandsFor text (begun_history new base)

-- This keeps a market, of which that is written, from going on: a cause of the roll; or what is written does not fit its own rows; or what is to be written would not end before a journal's most.
abbrev pub IsObstacleAt : Rows → Rows → Option DayParts → Option Base → Obstacle → Type 0
IsObstacleAt old new matured last (Market cause) = rolled old new matured last ≡ Err cause
IsObstacleAt old new matured last Misfit = (base : Base) × (last ≡ Some base) × (¬ Fits old base)
IsObstacleAt old new matured last TooLong = (base : Base) × (rolled old new matured last ≡ Ok base) × (limit ≤ 29 + length (base_spelling Second base))

-- this keeps the market of a history from going on
abbrev pub IsObstacle : Rows → Rows → Option DayParts → History → Obstacle → Type 0
IsObstacle old new matured h obstacle = IsObstacleAt old new matured (last_base h) obstacle

-- why there is no text
abbrev pub IsUnmadeAt : Rows → Rows → Option DayParts → Option Base → Unmade → Type 0
IsUnmadeAt old new matured last (unmade.Refused obstacle) = IsObstacleAt old new matured last obstacle
IsUnmadeAt old new matured last unmade.Memory = Unit {0}

abbrev pub IsUnmade : Rows → Rows → Option DayParts → History → Unmade → Type 0
IsUnmade old new matured h cause = IsUnmadeAt old new matured (last_base h) cause

-- the whole text for what the disk keeps was written; if that is asked for, after its open cycle is cancelled
abbrev pub Rolls : Rows → Rows → Option DayParts → Bool → DiskState → Option (List ℕ) → Option (List ℕ) → Type 0
Rolls old new matured cancel disk begun taken =
    (h : History) × (text : List ℕ) × IsKept old disk.history h × IsRolled old new matured (rolled_past cancel h) text × Takes begun taken text

-- a front of it was
abbrev pub RollsFront : Rows → Rows → Option DayParts → Bool → DiskState → Option (List ℕ) → Option (List ℕ) → Type 0
RollsFront old new matured cancel disk begun taken =
    (h : History) × (text : List ℕ) × IsKept old disk.history h × IsRolled old new matured (rolled_past cancel h) text × TakesFront begun taken text

module _ (roster new_roster : List ℕ) (matured : Option DayParts) (cancel : Bool) (files files' : FilesState) (output output' : OutputState) (disk left : DiskState) where
  -- over the rows of both rosters this holds, and the disk holds what it held
  abbrev pub OverRosters : (Rows → Rows → Type 0) → Type 0
  OverRosters P = (left.history ≡ disk.history) × OverRoster files.folder roster (λ old. OverRoster files.folder new_roster (P old))

  -- by the end of a roll, which writes nothing to the disk
  abbrev pub RollRuns : RollEnd → Type 0
  RollRuns Done = OverRosters (λ old new. Rolls old new matured cancel disk output.taken output'.taken)
  RollRuns (Unloaded fault) = (output' ≡ output) × (left ≡ disk) × IsRollUnread files files' roster new_roster fault
  RollRuns (Unread fault) = (output' ≡ output) × OverRosters (λ old new. IsUnread old disk left fault)
  RollRuns (Unrolled obstacle) = (output' ≡ output) × OverRosters (λ old new. (h : History) × IsKept old disk.history h × IsObstacle old new matured (rolled_past cancel h) obstacle)
  RollRuns SinkFault = OverRosters (λ old new. RollsFront old new matured cancel disk output.taken output'.taken) × Rose output.faults output'.faults
  RollRuns Memory = (output' ≡ output) × OverRosters (λ old new. Unit {0})
