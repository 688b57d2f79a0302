-- The end of a call: its status, and the line that tells it on the errors.
use Rattle.std.specs.Prelude.{ℕ, Bool, true, false, List, [], codes}
use Rattle.journal_core.specs.declared.fault.JournalFault.{JournalFault}
use Rattle.journal_core.specs.declared.fault.JournalFault.TheVariants as faults
use Rattle.compress_server.specs.declared.load.LoadFault.{LoadFault}
use Rattle.compress_server.specs.declared.load.LoadFault.TheVariants as loads
use Rattle.compress_server.specs.declared.ending.End.{End}
use Rattle.compress_server.specs.declared.ending.End.TheVariants.{Done, No, BadWords, Faulty, SourceFault, SinkFault, DiskFault, Damaged, Limit, Memory, ListenerFault, FilesFault, PeerRefused, PeerBroken, JournalFull, Unrolled}
use Rattle.compress_server.specs.Faults.{fault_line, damage_line, refused_line, broken_line, full_line, obstacle_line}

-- the end where a file could not be had
abbrev pub load_end : LoadFault → End
load_end (loads.Faulty role fault) = Faulty role fault
load_end (loads.Files role) = FilesFault
load_end loads.Memory = Memory

-- the end where nothing was read of a journal
abbrev pub journal_end : JournalFault → End
journal_end (faults.Damaged place) = Damaged place
journal_end faults.DiskFault = DiskFault
journal_end faults.Memory = Memory

-- what is told of an end: its status, its line, and whether the line wants memory
pub record Notice : Type 0 where
  pub status : ℕ
  pub line : List ℕ
  pub wants_memory : Bool

-- a line that always stands the same
abbrev pub fixed : ℕ → List ℕ → Notice
fixed status line = record { status = status; line = line; wants_memory = false }

-- a line with a fault, a number or a cause in it
abbrev pub made : ℕ → List ℕ → Notice
made status line = record { status = status; line = line; wants_memory = true }

abbrev pub notice_of : End → Notice
notice_of Done = fixed 0 []
notice_of No = fixed 1 []
notice_of BadWords = fixed 2 (codes "bad words\n")
notice_of (Faulty role fault) = made 3 (fault_line role fault)
notice_of SourceFault = fixed 4 (codes "source fault\n")
notice_of SinkFault = fixed 5 (codes "sink fault\n")
notice_of DiskFault = fixed 6 (codes "disk fault\n")
notice_of (Damaged place) = made 7 (damage_line place)
notice_of Limit = fixed 8 (codes "session limit\n")
notice_of Memory = fixed 9 (codes "memory\n")
notice_of ListenerFault = fixed 10 (codes "listener fault\n")
notice_of FilesFault = fixed 11 (codes "file fault\n")
notice_of (PeerRefused number) = made 12 (refused_line number)
notice_of (PeerBroken at) = made 13 (broken_line at)
notice_of (JournalFull size) = made 14 (full_line size)
notice_of (Unrolled obstacle) = made 15 (obstacle_line obstacle)

-- the status of an end
abbrev pub status_of : End → ℕ
status_of end = (notice_of end).status

-- its line; that of statuses 0 and 1 is empty
abbrev pub line_of : End → List ℕ
line_of end = (notice_of end).line

abbrev pub wants_memory : End → Bool
wants_memory end = (notice_of end).wants_memory
