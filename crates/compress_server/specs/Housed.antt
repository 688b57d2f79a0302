-- A script over its disk.
use Rattle.std.specs.Prelude.{◌≡◌, ◌⊎◌, ℕ, ◌≤◌, true, List, [], length, Option, Some, None}
use Rattle.command_types.specs.History.{IsLegal}
use Rattle.command_types.specs.Roster.{Rows}
use Rattle.outside.specs.Disk as disks
use Rattle.outside.specs.declared.disk.Disk.{Ghosts as DiskTells}
use Rattle.outside.specs.Faults.{Rose}
use Rattle.outside.specs.Files.{Folder}
use Rattle.house.specs.House.{HouseView, figures_of, first_of, is_stopped}
use Rattle.house.specs.Opening.{IsOpened, FindsFault, LeavesOpened, StandsForNone}
use Rattle.house.specs.Storing.{ContentStandsFor, LeavesHistory, LeavesKept, StandsForFront, StandsForKept, NeverGoBack, most_together, with_kept, moment_of}
use Rattle.compress_server.specs.Files.{OverRoster}
use Rattle.compress_server.specs.Cycles.{KeepsLaws}
use Rattle.journal_core.specs.declared.fault.JournalFault.{JournalFault}
use Rattle.journal_core.specs.declared.fault.JournalFault.TheVariants as faults

-- a disk, and the count of its faults
pub record DiskState : Type 0 where
  pub history : Option disks.History
  pub faults : ℕ

abbrev pub disk_of : Option disks.History → ℕ → DiskState
disk_of history faults = record { history = history; faults = faults }

-- what a disk tells
abbrev pub disk_by : {D : Type 0} → DiskTells D → D → DiskState
disk_by tells disk = disk_of (tells.history disk) (tells.fault_count disk)

-- A crash at any moment from before to after leaves what has P. It says nothing of a disk that tells nothing, but that it goes on so.
abbrev pub AtAnyMoment : Option disks.History → Option disks.History → (List ℕ → Type 0) → Type 0
AtAnyMoment None after P = after ≡ None
AtAnyMoment (Some before) None P = ⊥
AtAnyMoment (Some before) (Some after) P = (disks.moment before ≤ disks.moment after) × ((image : List ℕ) → disks.left_since after (disks.moment before) image → P image)

-- On the disk that came in a house was opened, with the view v, and it came back with the view w; this is what it left.
pub record IsHoused (rows : Rows) (disk left : DiskState) (v w : HouseView) : Type 0 where
  -- the first history is the one for which the content stands, and that at the opening is the same or, exactly where the file is to be folded, its fold
  pub opened : IsOpened rows disk.history disk.faults v
  pub figures : figures_of w ≡ figures_of v
  pub legal_first : IsLegal v.history
  pub legal : IsLegal w.history
  -- unless a fault of the disk stopped the house, the content stands for its history, and so does what a crash now leaves
  pub stands : w.kept ≡ [] → ContentStandsFor left.history w.history
  pub leaves : w.kept ≡ [] → LeavesHistory left.history w.history
  -- what was kept where a fault of the disk stopped the house could have been made, and what a crash now leaves stands for all of the history, perhaps with all of this
  pub few_kept : length w.kept ≤ most_together
  pub kept_legal : IsLegal (with_kept w.history w.kept)
  pub leaves_kept : LeavesKept left.history w.history w.kept
  -- what every crash at one moment of the run left, every crash at a later moment left
  pub never_back : NeverGoBack (moment_of disk.history) v.opening (first_of v.journal) left.history w.history w.kept
  -- What a crash at any moment of the run left stands for a front of the history, no shorter than the one at the opening. Or, where a fault stopped the house, it stands for all of it with all that was kept. In place of the one at the opening it may stand for the first history
  pub any_moment : AtAnyMoment disk.history left.history (λ image. StandsForFront v.opening (first_of v.journal) w.history image ⊎ StandsForKept w.history w.kept image)
  pub stopped : is_stopped w ≡ true → Rose disk.faults left.faults
  -- the laws of cycles hold in the first history and in the last
  pub first_cycles : KeepsLaws rows (first_of v.journal)
  pub cycles : KeepsLaws rows w.history

-- No house was opened: a crash at any moment leaves what stands for the history of these rows for which the content stood, or, where the file was to be folded, for its fold; where it stood for no legal history, it is as it was.
pub record IsUnopened (rows : Rows) (disk left : DiskState) : Type 0 where
  pub any_moment : LeavesOpened rows disk.history left.history
  pub untouched : StandsForNone rows disk.history → left.history ≡ disk.history

-- the disk's content stands for no legal history, with the one place that is told, and is as it was
pub record IsDamaged (rows : Rows) (disk left : DiskState) (place : ℕ) : Type 0 where
  pub found : FindsFault rows disk.history (faults.Damaged place)
  pub unopened : IsUnopened rows disk left
  pub same : left.history ≡ disk.history

-- why no house could be opened
abbrev pub OpeningFails : Rows → DiskState → DiskState → JournalFault → Type 0
OpeningFails rows disk left (faults.Damaged place) = IsDamaged rows disk left place
OpeningFails rows disk left faults.DiskFault = IsUnopened rows disk left × Rose disk.faults left.faults
OpeningFails rows disk left faults.Memory = IsUnopened rows disk left

-- a house was opened, and came back, and of the two this holds
abbrev pub OverHouse : Rows → DiskState → DiskState → (HouseView → HouseView → Type 0) → Type 0
OverHouse rows disk left P = (v : HouseView) × (w : HouseView) × IsHoused rows disk left v w × P v w

-- so it was over the rows of the roster's file
abbrev pub OverJournal : Option Folder → List ℕ → DiskState → DiskState → (HouseView → HouseView → Type 0) → Type 0
OverJournal folder roster disk left P = OverRoster folder roster (λ rows. OverHouse rows disk left P)
