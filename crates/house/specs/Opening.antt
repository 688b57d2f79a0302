-- What opening a house finds.
use Rattle.std.specs.Prelude.{◌≡◌, ◌⊎◌, ℕ, ◌≤◌, List, [], ◌∷◌, length, Option, Some, None, is_some}
use Rattle.command_types.specs.declared.figures.State.{State}
use Rattle.command_types.specs.Bases.{Fits}
use Rattle.command_types.specs.Machine.{state_after}
use Rattle.command_types.specs.History.{History, IsAcceptedIn, IsLegal}
use Rattle.command_types.specs.Roster.{Rows}
use Rattle.cycle_laws.specs.Bases.{IsWritable}
use Rattle.outside.specs.Disk as disks
use Rattle.recovery.specs.declared.contents.BaseAt.{BaseAt}
use Rattle.recovery.specs.declared.entries.EntryAt.{EntryAt}
use Rattle.journal_core.specs.declared.fault.JournalFault.TheVariants.{Damaged, DiskFault, Memory}
use Rattle.recovery.specs.StandsFor.{StandsFor}
use Rattle.recovery.specs.Reading.{FitsIn, HasBase, IsRead, IsFault, start_of}
use Rattle.journal_core.specs.declared.fault.JournalFault.{JournalFault}
use Rattle.house.specs.Folding.{LeavesOpenedAs, OpensOn}
use Rattle.house.specs.Storing.{moment_of, ContentStandsFor}
use Rattle.house.specs.House.{HouseView, first_of}

-- of entries with the places of their gates, the first that the machine does not accept at its place has its gate there
abbrev pub IsFirstRefused : State → List EntryAt → ℕ → Type 0
IsFirstRefused s [] place = ⊥
IsFirstRefused s (x ∷ xs) place =
    ((¬ IsAcceptedIn s x.entry) × (place ≡ x.at)) ⊎ (IsAcceptedIn s x.entry × IsFirstRefused (state_after s x.entry.ask) xs place)

-- a base and entries are read of the file, the base does not fit the roster, and this is its offset
abbrev pub IsMisfit : Rows → List ℕ → ℕ → Type 0
IsMisfit roster file place =
    (x : BaseAt) × (list : List EntryAt) × HasBase file (Some x) × IsRead file list × (¬ Fits roster x.base) × (place ≡ x.at)

-- entries are read of the file, and no base or one that fits, and the first of the entries that is not accepted at its place has its
-- gate at this one
abbrev pub IsRefused : Rows → List ℕ → ℕ → Type 0
IsRefused roster file place =
    (base : Option BaseAt) × (list : List EntryAt) × HasBase file base × IsRead file list × FitsIn roster base
    × IsFirstRefused (start_of roster base).state list place

-- The file stands for no legal history of the roster: it stands for none, and is damaged at this place as recovery tells, or its base
-- does not fit the roster, or one of the entries that are read of it is not accepted at its place.
abbrev pub IsDamaged : Rows → List ℕ → ℕ → Type 0
IsDamaged roster file place = IsFault file (Damaged place) ⊎ IsMisfit roster file place ⊎ IsRefused roster file place

-- a fault of opening a house on this file tells true
abbrev pub TellsTrue : Rows → List ℕ → JournalFault → Type 0
TellsTrue roster file (Damaged place) = IsDamaged roster file place
TellsTrue roster file DiskFault = Unit {0}
TellsTrue roster file Memory = Unit {0}

-- no other damage can be told of the file, and it stands for no legal history
abbrev pub IsOnlyFault : Rows → List ℕ → JournalFault → Type 0
IsOnlyFault roster file (Damaged place) =
    ((other : ℕ) → IsDamaged roster file other → other ≡ place)
    × ((h : History) → h.base.state.roster ≡ roster → StandsFor file h → IsLegal h → ⊥)
IsOnlyFault roster file DiskFault = Unit {0}
IsOnlyFault roster file Memory = Unit {0}

-- a fault of replaying these entries from this state: damage is told at the gate of the first that is not accepted, and no
-- disk is asked
abbrev pub IsReplayFault : State → List EntryAt → JournalFault → Type 0
IsReplayFault s xs (Damaged place) = IsFirstRefused s xs place
IsReplayFault s xs DiskFault = ⊥
IsReplayFault s xs Memory = Unit {0}

-- a fault of beginning at a base, or none: damage is told at the offset of one that does not fit the roster, and no disk is asked
abbrev pub IsBeginFault : Rows → Option BaseAt → JournalFault → Type 0
IsBeginFault roster None (Damaged place) = ⊥
IsBeginFault roster (Some x) (Damaged place) = (¬ Fits roster x.base) × (place ≡ x.at)
IsBeginFault roster base DiskFault = ⊥
IsBeginFault roster base Memory = Unit {0}

-- Each fact below says nothing where the disk tells nothing.

-- from before to after, a crash at any moment leaves what stands for the history of the roster for which the content stood before, or,
-- where that was to be folded, for its fold
abbrev pub LeavesOpened : Rows → Option disks.History → Option disks.History → Type 0
LeavesOpened roster before after = (h : History) → h.base.state.roster ≡ roster → ContentStandsFor before h → LeavesOpenedAs before after h

-- the disk's content stands for no legal history of the roster
abbrev pub StandsForNone : Rows → Option disks.History → Type 0
StandsForNone roster disk = (h : History) → h.base.state.roster ≡ roster → ContentStandsFor disk h → IsLegal h → ⊥

-- the fault tells true, and is the only one
abbrev pub FindsFault : Rows → Option disks.History → JournalFault → Type 0
FindsFault roster None fault = Unit {0}
FindsFault roster (Some disk) fault = TellsTrue roster disk.content fault × IsOnlyFault roster disk.content fault

-- A house just opened with this roster on this disk, whose count of faults was this: the first history is the one for which the
-- content stands, and the house's history is that one or, exactly where it is to be folded, its fold.
pub record IsOpened (roster : Rows) (disk : Option disks.History) (count : ℕ) (v : HouseView) : Type 0 where
  pub first_base : IsWritable roster v.journal.first_base.state
  pub first_legal : IsLegal (first_of v.journal)
  pub stands : ContentStandsFor disk (first_of v.journal)
  pub opens : OpensOn disk (first_of v.journal) v.history v.journal.size
  pub base : IsWritable roster v.history.base.state
  pub opening : v.opening ≡ length v.history.entries
  pub running : v.kept ≡ []
  pub tells : v.journal.tells ≡ is_some disk
  pub first_moment : v.journal.first_moment ≡ moment_of disk
  pub moment : v.journal.moment ≡ moment_of v.disk
  pub counted : (count ≤ v.faults) × (v.journal.faults ≡ v.faults)
