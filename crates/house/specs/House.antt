-- What contracts see of a house, and what it keeps.
use Rattle.std.specs.Prelude.{◌≡◌, ℕ, ◌+◌, ◌≤◌, Bool, true, false, is_some, take, drop, length, Option, Some, None, List, []}
use Rattle.command_types.specs.declared.ask.Entry.{Entry}
use Rattle.command_types.specs.declared.figures.Figures.{Figures}
use Rattle.command_types.specs.declared.figures.JournalFigures.{JournalFigures}
use Rattle.command_types.specs.declared.figures.State.{State}
use Rattle.command_types.specs.History.{History, IsLegal}
use Rattle.command_types.specs.Sizes.{frames_size, journal_limit}
use Rattle.cycle_states.specs.Replayed.{IsReplayed}
use Rattle.outside.specs.Disk as disks
use Rattle.outside.specs.Faults.{Rose}
use Rattle.journal_core.specs.Journal.{form_of, size_of, is_sound}
use Rattle.journal_core.specs.declared.form.Form.{Form}
use Rattle.journal_core.specs.declared.journal.Journal.{Journal}
use Rattle.house.specs.Folding.{OpensWith}
use Rattle.house.specs.Storing.{any_kept, most_together, with_kept, AreOnDisk, AreStoredAs, moment_of, LeavesHistory, LeavesKept, NeverGoBack}

-- A house's history, how many changes it had at the opening and what the journal was then, the changes that were kept where a disk fault
-- stopped the house, in their order, the disk, and the count of its faults.
pub record HouseView : Type 0 where
  pub history : History
  pub opening : ℕ
  pub journal : JournalFigures
  pub kept : List Entry
  pub disk : Option disks.History
  pub faults : ℕ

-- what it was when it was made
abbrev pub figures_of : HouseView → Figures
figures_of v = record { base = v.history.base; opening = v.history.base.position + v.opening; journal = Some v.journal; votes_take_memory = false }

-- a disk fault stopped it
abbrev pub is_stopped : HouseView → Bool
is_stopped v = any_kept v.kept

-- the history for which the disk's content stood when the disk was taken
abbrev pub first_of : JournalFigures → History
first_of journal = record { base = journal.first_base; entries = journal.first }

-- the history as it was at the opening
abbrev pub opened_of : HouseView → History
opened_of v = record v.history { entries = take v.opening v.history.entries }

-- the journal's bytes now
abbrev pub bytes_of : HouseView → ℕ
bytes_of v = v.journal.size + frames_size (drop v.opening v.history.entries)

-- what a house keeps, as far as callers see it
pub record Keeps (v : HouseView) : Type 0 where
  pub legal : IsLegal v.history
  pub opened : v.opening ≤ length v.history.entries
  -- it opened with the first history, or with its fold
  pub first : OpensWith (first_of v.journal) (opened_of v)
  pub first_legal : IsLegal (first_of v.journal)
  pub few : length (opened_of v).entries ≤ journal_limit
  -- a disk that told what it holds tells it still
  pub tells : is_some v.disk ≡ v.journal.tells
  -- the same holds of the moments since the opening, which are among these
  pub on_disk : AreOnDisk v.journal.first_moment v.opening (first_of v.journal) v.disk (bytes_of v) v.history v.kept
  pub moments : (v.journal.first_moment ≤ v.journal.moment) × (v.journal.moment ≤ moment_of v.disk)
  pub leaves : v.kept ≡ [] → LeavesHistory v.disk v.history
  -- what was kept could have been made, and a stopped house has its history on the disk still, perhaps with all of this
  pub few_kept : length v.kept ≤ most_together
  pub kept_legal : IsLegal (with_kept v.history v.kept)
  pub leaves_kept : LeavesKept v.disk v.history v.kept
  pub never_back : NeverGoBack v.journal.first_moment v.opening (first_of v.journal) v.disk v.history v.kept
  pub counted : v.journal.faults ≤ v.faults
  pub stopped : is_stopped v ≡ true → Rose v.journal.faults v.faults

-- a journal's form and bytes now, and whether none of its calls failed
pub record JournalNow : Type 0 where
  pub form : Form
  pub size : ℕ
  pub sound : Bool

abbrev pub now_of : {D : Type 0} → Journal D → JournalNow
now_of j = record { form = form_of j; size = size_of j; sound = is_sound j }

-- And besides: the machine is where the history leads. The journal has its bytes, and, unless changes were kept, it has the history, and
-- none of its calls failed.
pub record IsHouse (state : State) (journal : JournalNow) (v : HouseView) : Type 0 where
  pub replayed : IsReplayed state v.history
  pub sized : journal.size ≡ bytes_of v
  pub stored : v.kept ≡ [] → AreStoredAs v.disk journal.form journal.size v.history
  pub sound : v.kept ≡ [] → journal.sound ≡ true
  pub keeps : Keeps v

-- a house of these parts: its history, and what it was when it was made
abbrev pub house_of : History → ℕ → JournalFigures → List Entry → Option disks.History → ℕ → HouseView
house_of history opening journal kept disk faults = record {
  history = history;
  opening = opening;
  journal = journal;
  kept = kept;
  disk = disk;
  faults = faults;
}

-- what the journal was at the opening: its bytes, the disk's faults, the disk when it was taken and at the opening, and the
-- first history
abbrev pub journal_of : ℕ → ℕ → Option disks.History → Option disks.History → History → JournalFigures
journal_of size faults taken opened first = record {
  tells = is_some taken;
  size = size;
  faults = faults;
  moment = moment_of opened;
  first_moment = moment_of taken;
  first_base = first.base;
  first = first.entries;
}
