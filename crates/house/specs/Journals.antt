-- What a house rests on: how a file comes to stand for a history. All else in this crate is proved from these facts, and from
-- the one of `recovery` that a file stands for one history of a roster, and looks into no record.
use Rattle.std.specs.Prelude.{◌≡◌, ◌⊎◌, ℕ, ◌+◌, ◌≤◌, List, [], ◌∷◌, Option}
use Rattle.std.specs.List.{AllZip}
use Rattle.command_types.specs.declared.ask.Entry.{Entry}
use Rattle.command_types.specs.declared.spelling.Spelling.{Spelling}
use Rattle.command_types.specs.declared.spelling.Spelling.TheVariants.{First, Second}
use Rattle.command_types.specs.Folds.{folded}
use Rattle.command_types.specs.History.{History, longer}
use Rattle.command_types.specs.Roster.{Rows}
use Rattle.command_types.specs.Sizes.{frame_size, frames_size}
use Rattle.command_types.specs.Spelling.{Spells, turn}
use Rattle.outside.specs.Disk as disks
use Rattle.journal_core.specs.Form.{begun_form}
use Rattle.journal_core.specs.Holds.{limit}
use Rattle.journal_core.specs.Moments.{LeavesOnly, MayLeaveYet}
use Rattle.journal_core.specs.Journal.{EndsAt, IsReady, IsStaged}
use Rattle.journal_core.specs.Calls.{AreAppending, AreAppended, IsAppending, IsAppended, IsAppendedLast, IsStarting, IsStarted, IsStaging, IsStagedBeside, IsSwitching, IsSwitched}
use Rattle.journal_core.specs.declared.form.Form.{Form}
use Rattle.journal_core.specs.declared.staged.Staged.{Staged}
use Rattle.recovery.specs.declared.contents.BaseAt.{BaseAt}
use Rattle.recovery.specs.declared.entries.EntryAt.{EntryAt}
use Rattle.recovery.specs.StandsFor.{StandsForBase, StandsFor}
use Rattle.recovery.specs.Reading.{FitsIn, FindsSpelling, HasBase, IsRead, history_of}
use Rattle.house.specs.Folding.{fold_bytes}
use Rattle.house.specs.Storing.{IsStored, AreStoredAs, AreWrittenAs, StandsForAllOrNone, StandsForEither, ContentStandsFor}

-- What is read of a file is what it stands for, over each roster that its base fits,
abbrev pub ContentsStand : Type 0
ContentsStand =
    (roster : Rows) (file : List ℕ) (base : Option BaseAt) (list : List EntryAt) → HasBase file base → IsRead file list → FitsIn roster base
    → StandsFor file (history_of roster base list)

-- and it stands for nothing else,
abbrev pub ContentsAreRead : Type 0
ContentsAreRead =
    (file : List ℕ) (base : Option BaseAt) (list : List EntryAt) (h : History) → HasBase file base → IsRead file list → StandsFor file h
    → FitsIn h.base.state.roster base × (h ≡ history_of h.base.state.roster base list)

-- and is read with the same places each time.
abbrev pub FilesReadOneWay : Type 0
FilesReadOneWay = (file : List ℕ) (xs ys : List EntryAt) → IsRead file xs → IsRead file ys → xs ≡ ys

abbrev pub FilesHaveOneBase : Type 0
FilesHaveOneBase = (file : List ℕ) (a b : Option BaseAt) → HasBase file a → HasBase file b → a ≡ b

-- What is stored on a disk is what its content stands for,
abbrev pub StoredHistoriesStand : Type 0
StoredHistoriesStand = (disk : disks.History) (end : ℕ) (h : History) → IsStored disk end h → StandsFor disk.content h

-- and is ready for one more record.
abbrev pub StoredHistoriesAreReady : Type 0
StoredHistoriesAreReady = (disk : Option disks.History) (form : Form) (end : ℕ) (h : History) → AreStoredAs disk form end h → IsReady disk form end

-- After an append of what spells some changes in the second spelling and fits, all at once, the history from before with these changes
-- is stored,
abbrev pub AppendAddsTheEntries : Type 0
AppendAddsTheEntries =
    (old new : Option disks.History) (form : Form) (end next : ℕ) (h : History) (records : List (List ℕ)) (entry : Entry) (others : List Entry)
    → AllZip (Spells Second) records (entry ∷ others) → end + frames_size (entry ∷ others) ≤ limit → AreAppending old new form end records
    → AreAppended old new form end next records → AreStoredAs old form end h → AreStoredAs new form next (longer h (entry ∷ others))

-- and a crash at any moment of it leaves what stands for the history from before, or for it with all of them.
abbrev pub AppendLeavesAllOrNone : Type 0
AppendLeavesAllOrNone =
    (old new : Option disks.History) (form : Form) (end : ℕ) (h : History) (records : List (List ℕ)) (entry : Entry) (others : List Entry)
    → AllZip (Spells Second) records (entry ∷ others) → end + frames_size (entry ∷ others) ≤ limit → AreAppending old new form end records
    → AreStoredAs old form end h → LeavesOnly old new (StandsForAllOrNone h (entry ∷ others))

-- The same of one: after an append of what spells a change in the second spelling and fits, the history from before with this change is
-- stored,
abbrev pub AppendAddsTheEntry : Type 0
AppendAddsTheEntry =
    (old new : Option disks.History) (form : Form) (end next : ℕ) (h : History) (bytes : List ℕ) (entry : Entry) → Spells Second bytes entry
    → end + frame_size entry.ask ≤ limit → IsAppending old new form end bytes → IsAppended old new form end next bytes → AreStoredAs old form end h
    → AreStoredAs new form next (longer h (entry ∷ []))

-- a crash at any moment of it leaves what stands for the history from before, or for it with the one,
abbrev pub AppendLeavesEither : Type 0
AppendLeavesEither =
    (old new : Option disks.History) (form : Form) (end : ℕ) (h : History) (bytes : List ℕ) (entry : Entry) → Spells Second bytes entry
    → end + frame_size entry.ask ≤ limit → IsAppending old new form end bytes → AreStoredAs old form end h → LeavesOnly old new (StandsForEither h entry)

-- and until the last moment it may leave what stands for the history from before.
abbrev pub AppendLeavesYet : Type 0
AppendLeavesYet =
    (old new : Option disks.History) (form : Form) (end : ℕ) (h : History) → IsAppendedLast old new form end → AreStoredAs old form end h
    → MayLeaveYet old new (λ image. StandsFor image h)

-- A crash at any moment of the append that turns a journal leaves what stands for the same history,
abbrev pub TurnChangesNothing : Type 0
TurnChangesNothing =
    (old new : Option disks.History) (form : Form) (end : ℕ) (h : History) → IsAppending old new form end turn → AreWrittenAs old form end First h
    → LeavesOnly old new (λ image. StandsFor image h)

-- which is written behind it still, and the journal goes on in the second spelling.
abbrev pub TurnWritesTheSame : Type 0
TurnWritesTheSame =
    (old new : Option disks.History) (form : Form) (end next : ℕ) (h : History) → IsAppending old new form end turn → IsAppended old new form end next turn
    → AreWrittenAs old form end First h → AreWrittenAs new form next Second h

-- A crash at any moment of a start leaves what stands for the same history,
abbrev pub StartChangesNothing : Type 0
StartChangesNothing =
    (old new : Option disks.History) (h : History) → IsStarting old new → ContentStandsFor old h
    → LeavesOnly old new (λ image. StandsFor image h)

-- which is written behind it, in the spelling that the file was in.
abbrev pub StartWritesTheSame : Type 0
StartWritesTheSame =
    (old new : Option disks.History) (form : Form) (end : ℕ) (last : Spelling) (h : History) → IsStarting old new → IsStarted old new form
    → EndsAt old form end → FindsSpelling old last → ContentStandsFor old h → AreWrittenAs new (begun_form form) end last h

-- A crash at any moment of a staging leaves what stands for the same history,
abbrev pub StagingChangesNothing : Type 0
StagingChangesNothing =
    (old new : Option disks.History) (form : Form) (end : ℕ) (last : Spelling) (h : History) → IsStaging old new form end → AreWrittenAs old form end last h
    → LeavesOnly old new (λ image. StandsFor image h)

-- which is written behind it still.
abbrev pub StagingWritesTheSame : Type 0
StagingWritesTheSame =
    (old new : Option disks.History) (form : Form) (end : ℕ) (last : Spelling) (h : History) → IsStaging old new form end → IsStagedBeside old new form end
    → AreWrittenAs old form end last h → AreWrittenAs new form end last h

-- A crash at any moment of a switch to the base of a fold leaves what stands for the history or for its fold,
abbrev pub SwitchLeavesEither : Type 0
SwitchLeavesEither =
    (old new : Option disks.History) (form : Form) (end : ℕ) (last : Spelling) (staged : Staged) (h : History) → StandsForBase (fold_bytes h) (folded h).base
    → IsSwitching old new form end staged → IsStaged old staged (fold_bytes h) → AreWrittenAs old form end last h
    → LeavesOnly old new (λ image. StandsFor image h ⊎ StandsFor image (folded h))

-- which is stored behind it.
abbrev pub SwitchStoresTheFold : Type 0
SwitchStoresTheFold =
    (old new : Option disks.History) (form next : Form) (end size : ℕ) (last : Spelling) (staged : Staged) (h : History) → StandsForBase (fold_bytes h) (folded h).base
    → IsSwitching old new form end staged → IsSwitched old new staged next size → IsStaged old staged (fold_bytes h) → AreWrittenAs old form end last h
    → AreStoredAs new next size (folded h)
