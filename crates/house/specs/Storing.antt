-- What stands on the disk of a house.
use Rattle.std.specs.Prelude.{◌≡◌, ◌⊎◌, ℕ, ◌+◌, ◌≤◌, ◌<◌, nat_lt, Bool, true, false, List, [], ◌∷◌, ◌++◌, length, Option, Some, None, if◌then◌else◌}
use Rattle.command_types.specs.declared.ask.Entry.{Entry}
use Rattle.command_types.specs.declared.desk.TheConstants.{MOST_TOGETHER}
use Rattle.command_types.specs.declared.spelling.Spelling.{Spelling}
use Rattle.command_types.specs.declared.spelling.Spelling.TheVariants.{First, Second}
use Rattle.command_types.specs.Bases.{spelling_behind}
use Rattle.command_types.specs.History.{History, longer}
use Rattle.outside.specs.Disk.{moment, may_leave, left_since}
use Rattle.outside.specs.Disk as disks
use Rattle.journal_core.specs.Holds.{limit}
use Rattle.journal_core.specs.Journal.{form_of, size_of, IsAtRest}
use Rattle.journal_core.specs.Moments.{left_at, LeavesOnly, MayLeaveYet}
use Rattle.journal_core.specs.declared.form.Form.{Form}
use Rattle.journal_core.specs.declared.journal.Journal.{Journal}
use Rattle.recovery.specs.Bodies.{spelling_after}
use Rattle.recovery.specs.StandsFor.{SpellAll, StandsForBase, StandsFor}

-- all of the disk's content is on the disk: a journal of this form that ends at this place, whose base stands for the history's, and
-- whose records spell its changes; it goes on in this spelling
abbrev pub IsWrittenAs : disks.History → Form → ℕ → Spelling → History → Type 0
IsWrittenAs disk form end last h =
    (base : List ℕ) × (records : List (List ℕ)) × IsAtRest (Some disk) form end base records × StandsForBase base h.base
    × SpellAll (spelling_behind base) records h.entries × (last ≡ spelling_after (spelling_behind base) records)

-- where a journal ends behind the record that turns it: that has eight bytes, its length four, and its gate one
abbrev pub turn_end : ℕ → ℕ
turn_end end = end + 13

-- a journal that ends there and goes on in this spelling is turned, or has no room for the record that turns it
abbrev pub IsTurned : ℕ → Spelling → Type 0
IsTurned end First = limit < turn_end end
IsTurned end Second = Unit {0}

-- where a journal that ended there and went on in this spelling ends once it is turned, where there is room for that
abbrev pub end_turned : Spelling → ℕ → ℕ
end_turned First end = if nat_lt limit (turn_end end) then end else turn_end end
end_turned Second end = end

-- so it is written, and the journal is turned if it has room for that
abbrev pub IsStoredAs : disks.History → Form → ℕ → History → Type 0
IsStoredAs disk form end h = (last : Spelling) × IsWrittenAs disk form end last h × IsTurned end last

-- a journal of some form
abbrev pub IsStored : disks.History → ℕ → History → Type 0
IsStored disk end h = (form : Form) × IsStoredAs disk form end h

-- how many changes are put on the disk together at most
abbrev pub most_together : ℕ
most_together = MOST_TOGETHER

-- the image stands for this history, or for it with all of some more changes
abbrev pub StandsForAllOrNone : History → List Entry → List ℕ → Type 0
StandsForAllOrNone h more image = StandsFor image h ⊎ StandsFor image (longer h more)

-- the same of one more
abbrev pub StandsForEither : History → Entry → List ℕ → Type 0
StandsForEither h entry = StandsForAllOrNone h (entry ∷ [])

-- The image stands for this front of a history. Where it is as long as the history was at the opening, the image may stand for the
-- first history instead, of which that one may be the fold.
abbrev pub StandsAs : ℕ → History → History → List Entry → List ℕ → Type 0
StandsAs opening first h front image = StandsFor image (record h { entries = front }) ⊎ ((length front ≡ opening) × StandsFor image first)

-- the image stands for a front of this history, no shorter than it was at the opening
pub record StandsForFront (opening : ℕ) (first h : History) (image : List ℕ) : Type 0 where
  pub front : List Entry
  pub back : List Entry
  pub split : h.entries ≡ front ++ back
  pub long : opening ≤ length front
  pub stands : StandsAs opening first h front image

-- whether any change was kept
abbrev pub any_kept : List Entry → Bool
any_kept [] = false
any_kept (entry ∷ others) = true

-- the image stands for this history with all changes that were kept, if any were
abbrev pub StandsForKept : History → List Entry → List ℕ → Type 0
StandsForKept h [] image = ⊥
StandsForKept h (entry ∷ others) image = StandsFor image (longer h (entry ∷ others))

-- this history with what was kept
abbrev pub with_kept : History → List Entry → History
with_kept h [] = h
with_kept h (entry ∷ others) = longer h (entry ∷ others)

-- the image stands for the front of this history that has so many changes
pub record StandsForLong (opening long : ℕ) (first h : History) (image : List ℕ) : Type 0 where
  pub front : List Entry
  pub back : List Entry
  pub split : h.entries ≡ front ++ back
  pub has : length front ≡ long
  pub stands : StandsAs opening first h front image

-- What every image of one moment has, every image of a later moment has. Each moment from one number on has a length, which never
-- falls, from that at the opening to how many changes were made, and some changes that are being put on the disk together. What a crash
-- at the moment leaves stands for the front of all of that length, or for that with all of these. At each moment but the last a crash may
-- leave no more than that length.
pub record NeverGoesBack (since opening made : ℕ) (now : disks.History) (first_history all : History) : Type 0 where
  pub lengths : ℕ → ℕ
  pub together : ℕ → ℕ
  pub few : (number : ℕ) → together number ≤ most_together
  pub rising : (m n : ℕ) → m ≤ n → lengths m ≤ lengths n
  pub first : opening ≤ lengths since
  pub last : (number : ℕ) → lengths number ≤ made
  pub each : (number : ℕ) (image : List ℕ) → since ≤ number → left_at now number image
      → StandsForLong opening (lengths number) first_history all image ⊎ StandsForLong opening (lengths number + together number) first_history all image
  pub some : (number : ℕ) → since ≤ number → number < moment now
      → (image : List ℕ) × left_at now number image × StandsForLong opening (lengths number) first_history all image

-- Of a house with this history, which had so many changes at its opening on the first one, from the disk's moment with one number on.
-- Unless changes were kept, the disk has the history. What a crash at any moment from that number on leaves stands for a front of it,
-- not shorter than at the opening, or for all of it with all that was kept.
pub record IsOnDisk (since opening : ℕ) (first : History) (now : disks.History) (size : ℕ) (h : History) (kept : List Entry) : Type 0 where
  pub later : since ≤ moment now
  pub stored : kept ≡ [] → IsStored now size h
  pub each : (image : List ℕ) → left_since now since image → StandsForFront opening first h image ⊎ StandsForKept h kept image

-- Each fact below says nothing where the disk tells nothing.

-- so it is on the disk of a house with this history
abbrev pub AreOnDisk : ℕ → ℕ → History → Option disks.History → ℕ → History → List Entry → Type 0
AreOnDisk since opening first None size h kept = Unit {0}
AreOnDisk since opening first (Some now) size h kept = IsOnDisk since opening first now size h kept

-- the number of the disk's moment
abbrev pub moment_of : Option disks.History → ℕ
moment_of None = 0
moment_of (Some disk) = moment disk

-- the disk's content stands for this history
abbrev pub ContentStandsFor : Option disks.History → History → Type 0
ContentStandsFor None h = Unit {0}
ContentStandsFor (Some disk) h = StandsFor disk.content h

-- the disk has this history written so
abbrev pub AreWrittenAs : Option disks.History → Form → ℕ → Spelling → History → Type 0
AreWrittenAs None form size last h = Unit {0}
AreWrittenAs (Some disk) form size last h = IsWrittenAs disk form size last h

-- in the journal as it is
abbrev pub AreWrittenIn : {D : Type 0} → Option disks.History → Journal D → Spelling → History → Type 0
AreWrittenIn disk journal last h = AreWrittenAs disk (form_of journal) (size_of journal) last h

-- the disk has this history, in a journal of this form
abbrev pub AreStoredAs : Option disks.History → Form → ℕ → History → Type 0
AreStoredAs None form size h = Unit {0}
AreStoredAs (Some disk) form size h = IsStoredAs disk form size h

-- the disk has this history
abbrev pub AreStored : Option disks.History → ℕ → History → Type 0
AreStored None size h = Unit {0}
AreStored (Some disk) size h = IsStored disk size h

-- the disk has this history, in the journal as it is
abbrev pub AreStoredIn : {D : Type 0} → Option disks.History → Journal D → History → Type 0
AreStoredIn disk journal h = AreStoredAs disk (form_of journal) (size_of journal) h

-- from a disk that had this history written in a journal that went on in this spelling, what a crash at any moment leaves stands for it,
abbrev pub TurnsOnly : {D : Type 0} → Option disks.History → Journal D → Spelling → Option disks.History → Type 0
TurnsOnly before journal last after = (h : History) → AreWrittenIn before journal last h → LeavesOnly before after (λ image. StandsFor image h)

-- and the disk has it in the end
abbrev pub StoresTurned : {D : Type 0} → Option disks.History → Journal D → Spelling → Option disks.History → Journal D → Type 0
StoresTurned before journal last after later = (h : History) → AreWrittenIn before journal last h → AreStoredIn after later h

-- a disk that had this history has it with the one change more
abbrev pub StoresMore : {D : Type 0} → Option disks.History → Journal D → Option disks.History → Journal D → History → Entry → Type 0
StoresMore before journal after later h entry = AreStoredIn before journal h → AreStoredIn after later (longer h (entry ∷ []))

-- from a disk that had this history on, what a crash at any moment leaves stands for it, or for it with the one change more
abbrev pub LeavesEither : {D : Type 0} → Option disks.History → Journal D → Option disks.History → History → Entry → Type 0
LeavesEither before journal after h entry = AreStoredIn before journal h → LeavesOnly before after (StandsForEither h entry)

-- what a crash now leaves stands for this history
abbrev pub LeavesHistory : Option disks.History → History → Type 0
LeavesHistory None h = Unit {0}
LeavesHistory (Some disk) h = (image : List ℕ) → may_leave disk.now image → StandsFor image h

-- what a crash now leaves stands for this history, or for it with all that was kept
abbrev pub LeavesKept : Option disks.History → History → List Entry → Type 0
LeavesKept None h kept = Unit {0}
LeavesKept (Some disk) h kept = (image : List ℕ) → may_leave disk.now image → StandsFor image h ⊎ StandsFor image (with_kept h kept)

-- from a disk that had this history on, a crash may leave it until the last moment
abbrev pub LeavesYet : {D : Type 0} → Option disks.History → Journal D → Option disks.History → History → Type 0
LeavesYet before journal after h = AreStoredIn before journal h → MayLeaveYet before after (λ image. StandsFor image h)

-- so crashes go on, of a house with this history and what was kept
abbrev pub NeverGoBack : ℕ → ℕ → History → Option disks.History → History → List Entry → Type 0
NeverGoBack since opening first None h kept = Unit {0}
NeverGoBack since opening first (Some now) h kept = NeverGoesBack since opening (length h.entries) now first (with_kept h kept)
