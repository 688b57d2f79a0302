-- When a house opens with the fold of the history for which its disk stands.
use Rattle.std.specs.Prelude.{◌≡◌, ◌⊎◌, ℕ, ◌≤◌, List, length, Option, Some, None, Bool, true, false}
use Rattle.units_core.specs.declared.limits.TheConstants.{MOST_NUMBER}
use Rattle.command_types.specs.declared.spelling.Spelling.TheVariants.{Second}
use Rattle.command_types.specs.Bases.{base_spelling, spelling_behind, written}
use Rattle.command_types.specs.Folds.{IsAtRest, folded}
use Rattle.command_types.specs.History.{History, end_of, replayed}
use Rattle.outside.specs.Disk as disks
use Rattle.journal_core.specs.Form.{fold_end}
use Rattle.journal_core.specs.Holds.{limit, IsJournal, IsShort, end_in}
use Rattle.journal_core.specs.Journal.{EndsAs, IsFormOf}
use Rattle.journal_core.specs.Moments.{LeavesOnly}
use Rattle.journal_core.specs.declared.form.Form.{Form}
use Rattle.journal_core.specs.declared.form.Form.TheVariants.{Slots}
use Rattle.recovery.specs.Bodies.{spelling_after}
use Rattle.recovery.specs.StandsFor.{StandsFor}
use Rattle.house.specs.Storing.{end_turned}
use Rattle.house.specs.declared.folding.TheConstants.{FEWEST_TO_FOLD}

-- the history has changes enough, no cycle is open at its end, and a base there has small numbers
pub record MayBeFolded (h : History) : Type 0 where
  pub at_rest : IsAtRest h
  pub many : FEWEST_TO_FOLD ≤ length h.entries
  pub position : end_of h ≤ MOST_NUMBER
  pub cycle : (replayed h).cycle.number ≤ MOST_NUMBER
  pub version : (replayed h).cycle.version ≤ MOST_NUMBER

-- what is written of the base of its fold
abbrev pub fold_bytes : History → List ℕ
fold_bytes h = base_spelling Second (written (folded h).base)

-- A file that stands for the history is to be folded: it has slots and is long enough, the history may be folded, and the body of
-- its fold's base ends at or before the limit.
pub record IsToFold (file : List ℕ) (h : History) : Type 0 where
  pub long : IsShort file → ⊥
  pub which : ℕ
  pub offset : ℕ
  pub base : List ℕ
  pub records : List (List ℕ)
  pub journal : IsJournal (Slots which offset) file base records
  pub may : MayBeFolded h
  pub fits : fold_end (Slots which offset) (end_in journal) (length (fold_bytes h)) ≤ limit

-- where that body ends
abbrev pub end_folded : {file : List ℕ} {h : History} → IsToFold file h → ℕ
end_folded {file} {h} t = fold_end (Slots t.which t.offset) (end_in t.journal) (length (fold_bytes h))

-- a house opens on the first history with this one: with the same, or, where no cycle is open at its end, with its fold
abbrev pub OpensWith : History → History → Type 0
OpensWith first h = (h ≡ first) ⊎ (IsAtRest first × (h ≡ folded first))

-- the journal on the file, as it is or when it is begun, ends at this place once it is turned
pub record IsEnd (file : List ℕ) (size : ℕ) : Type 0 where
  pub form : Form
  pub has_form : IsFormOf form file
  pub end : ℕ
  pub base : List ℕ
  pub records : List (List ℕ)
  pub ends : EndsAs form file end base records
  pub turned : size ≡ end_turned (spelling_after (spelling_behind base) records) end

-- On a file that stands for the first history it opens with this one, and its journal has so many bytes: with the fold exactly
-- where the file is to be folded. Where it is not, the journal is turned if it is in the first spelling and has room for that.
abbrev pub OpensOver : List ℕ → History → History → ℕ → Type 0
OpensOver file first h size =
    ((IsToFold file first → ⊥) × (h ≡ first) × IsEnd file size)
    ⊎ ((to_fold : IsToFold file first) × (h ≡ folded first) × (size ≡ end_folded to_fold))

-- so it opens on a disk; of one that tells nothing only the history is known
abbrev pub OpensOn : Option disks.History → History → History → ℕ → Type 0
OpensOn None first h size = OpensWith first h
OpensOn (Some disk) first h size = OpensOver disk.content first h size

-- the image stands for the history, or, where the file that stands for it is to be folded, for its fold
abbrev pub StandsForOpened : List ℕ → History → List ℕ → Type 0
StandsForOpened file h image = StandsFor image h ⊎ (IsToFold file h × StandsFor image (folded h))

-- From before to after, a crash at any moment leaves what stands so, for this history that the disk had. It says nothing of a disk that
-- tells nothing, but that it goes on so.
abbrev pub LeavesOpenedAs : Option disks.History → Option disks.History → History → Type 0
LeavesOpenedAs None after h = after ≡ None
LeavesOpenedAs (Some disk) after h = LeavesOnly (Some disk) after (StandsForOpened disk.content h)

-- the image stands for a history, or for the first one, of which it may be the fold
abbrev pub StandsForOne : History → History → List ℕ → Type 0
StandsForOne h first image = StandsFor image h ⊎ StandsFor image first

-- the history with which a house opens: the fold where the journal was folded
abbrev pub opened_with : Bool → History → History
opened_with true h = folded h
opened_with false h = h
