-- What is read of a disk's journal.
use Rattle.std.specs.Prelude.{◌≡◌, ◌≢◌, ◌⊎◌, ℕ, List, [], ◌∷◌, length, map, Option, Some, None, Result, Ok, Err}
use Rattle.command_types.specs.declared.ask.Entry.{Entry}
use Rattle.command_types.specs.declared.figures.Start.{Start}
use Rattle.command_types.specs.declared.spelling.Spelling.{Spelling}
use Rattle.std.specs.List.{AllZip}
use Rattle.command_types.specs.Bases.{base_in, spelling_behind, SpellsBase, Fits}
use Rattle.command_types.specs.History.{History}
use Rattle.command_types.specs.Roster.{Rows}
use Rattle.outside.specs.Disk as disks
use Rattle.journal_core.specs.Holds.{IsJournal, Holds}
use Rattle.journal_core.specs.RecordBytes.{walked_of}
use Rattle.journal_core.specs.Records.{AreAhead}
use Rattle.journal_core.specs.Walk.{placed, bytes_of, base_of, IsDamaged, IsWalked}
use Rattle.journal_core.specs.declared.form.Form.{Form}
use Rattle.journal_core.specs.declared.form.Form.TheVariants.{Slots}
use Rattle.journal_core.specs.declared.walked.Walked.{Walked}
use Rattle.recovery.specs.Bodies.{Placed, changes_of, spelling_after}
use Rattle.recovery.specs.StandsFor.{first_start, SpellAll, StandsFor, GoesOnIn, HoldsAt, changes_at, SpellsAs, SpellsSomeBase, IsBadBase, IsFirstBad, IsUnreadable}
use Rattle.recovery.specs.declared.body.Body.{Body}
use Rattle.recovery.specs.declared.contents.BaseAt.{BaseAt}
use Rattle.recovery.specs.declared.contents.Contents.{Contents}
use Rattle.recovery.specs.declared.entries.Entries.{Entries}
use Rattle.recovery.specs.declared.entries.EntryAt.{EntryAt}
use Rattle.recovery.specs.declared.reader.EntryReader.{EntryReader}
use Rattle.journal_core.specs.declared.fault.JournalFault.{JournalFault}
use Rattle.journal_core.specs.declared.fault.JournalFault.TheVariants.{Damaged, DiskFault, Memory}

-- the bytes that were read, their form, and the place just past the gate behind their records
abbrev pub file_of : Entries → List ℕ
file_of e = bytes_of (walked_of e.records)

abbrev pub form_read : Entries → Form
form_read e = e.form

abbrev pub ends_at : Entries → ℕ
ends_at e = e.end

-- the spelling behind the last of them
abbrev pub last_spelling : Entries → Spelling
last_spelling e = e.last

-- entries without the places of their gates
abbrev pub entries_in : List EntryAt → List Entry
entries_in list = map (λ (x : EntryAt). x.entry) list

-- the bytes have their gate where the entry has it, and spell the entry
abbrev pub SpellsAt : Placed → EntryAt → Type 0
SpellsAt r x = (x.at ≡ r.0) × SpellsAs r.1 x.entry

-- a fault of reading these: damage is told at the gate of the first that spells no change, and no disk is asked
abbrev pub IsFaultAmong : List Placed → JournalFault → Type 0
IsFaultAmong changes (Damaged place) = IsFirstBad changes place
IsFaultAmong changes DiskFault = ⊥
IsFaultAmong changes Memory = Unit {0}

-- some entries are spelled by these
abbrev pub AreSpelled : List Placed → Type 0
AreSpelled changes = (list : List EntryAt) × AllZip SpellsAt changes list

-- the file holds some records, and what is to spell changes among them has its gate where its entry has it, and spells that
abbrev pub IsRead : List ℕ → List EntryAt → Type 0
IsRead file list =
    (base : List ℕ) × (records : List (List ℕ)) × (gate : ℕ) × HoldsAt file base records gate × AllZip SpellsAt (changes_at base gate records) list

-- the records that the file holds, of a body that begins in this spelling, spell the entries
abbrev pub TellAll : List ℕ → Spelling → List EntryAt → Type 0
TellAll file spelling list = (base : List ℕ) (records : List (List ℕ)) → Holds file base records → SpellAll spelling records (entries_in list)

-- some entries are read of the file, which a walk has found, with a body that begins in this spelling
abbrev pub HasRead : Entries → Type 0
HasRead e =
    (list : List EntryAt) × IsRead (file_of e) list × IsWalked (walked_of e.records) × (e.first ≡ spelling_behind (base_of (walked_of e.records)))

-- these records of a body are still to be read
abbrev pub AreAheadOf : Body → List (List ℕ) → Type 0
AreAheadOf body records = AreAhead body.records.at body.records.rest.now records

-- what is to spell changes among them
abbrev pub changes_ahead : Body → List (List ℕ) → List Placed
changes_ahead body records = changes_of body.spelling (placed body.records.at records)

-- it is the first to spell a change of these records, and behind it others are still to be read
pub record IsFirstOf (old new : Body) (records : List (List ℕ)) (found : Placed) : Type 0 where
  pub others : List (List ℕ)
  pub split : changes_ahead old records ≡ found ∷ changes_ahead new others
  pub last : spelling_after old.spelling records ≡ spelling_after new.spelling others
  pub ahead : AreAheadOf new others

-- none of these records is to spell a change, and the body goes on in its spelling
abbrev pub HasNone : Body → Body → List (List ℕ) → Type 0
HasNone old new records = (changes_ahead old records ≡ []) × (new.spelling ≡ spelling_after old.spelling records)

-- the entries that are still to be read, of which the first has its gate where the reader stands
abbrev pub AreLeft : EntryReader → List EntryAt → Type 0
AreLeft reader list = (records : List (List ℕ)) × AreAheadOf reader.body records × AllZip SpellsAt (changes_ahead reader.body records) list

-- how many bytes are still to be read
abbrev pub bytes_left : EntryReader → ℕ
bytes_left reader = length reader.body.records.rest.now

-- the entry is the first of these, and the others are still to be read; where there is none, there was none
abbrev pub IsNext : List EntryAt → EntryReader → Option EntryAt → Type 0
IsNext list reader None = list ≡ []
IsNext list reader (Some x) = (others : List EntryAt) × (list ≡ x ∷ others) × AreLeft reader others

-- the file holds no base, or one at the offset that is told, which spells what is told
abbrev pub HasBase : List ℕ → Option BaseAt → Type 0
HasBase file None = (records : List (List ℕ)) × Holds file [] records
HasBase file (Some x) =
    (which : ℕ) × (bytes : List ℕ) × (records : List (List ℕ)) × IsJournal (Slots which x.at) file bytes records × SpellsBase bytes x.base

-- the same of a file that a walk has found
abbrev pub IsBaseOf : Walked → Option BaseAt → Type 0
IsBaseOf w None = base_of w ≡ []
IsBaseOf w (Some x) = (which : ℕ) × (w.form ≡ Slots which x.at) × SpellsBase (base_of w) x.base

-- a fault of reading its base: damage is told at the base's offset, where it spells none, and no disk is asked
abbrev pub IsBaseFault : Walked → JournalFault → Type 0
IsBaseFault w (Damaged place) = (which : ℕ) × (w.form ≡ Slots which place) × (base_of w ≢ []) × (¬ SpellsSomeBase (base_of w))
IsBaseFault w DiskFault = ⊥
IsBaseFault w Memory = Unit {0}

-- the base fits the roster, if there is one
abbrev pub FitsIn : Rows → Option BaseAt → Type 0
FitsIn roster None = Unit {0}
FitsIn roster (Some x) = Fits roster x.base

-- where a history of a roster begins: without a base where its market does, and else where the base tells
abbrev pub start_of : Rows → Option BaseAt → Start
start_of roster None = first_start roster
start_of roster (Some x) = base_in roster x.base

-- the history of a roster with this base and these entries
abbrev pub history_of : Rows → Option BaseAt → List EntryAt → History
history_of roster base list = record { base = start_of roster base; entries = entries_in list }

-- damage is told at the place where the file is damaged as a journal, or, where it holds a base and records, at the offset of a
-- base that is not spelled, or else at the gate of the first record that spells no change
abbrev pub IsFault : List ℕ → JournalFault → Type 0
IsFault file (Damaged place) = IsDamaged file place ⊎ (IsBadBase file place ⊎ IsUnreadable file place)
IsFault file DiskFault = Unit {0}
IsFault file Memory = Unit {0}

-- no other damage can be told of the file, and it stands for no history
abbrev pub IsOnlyFault : List ℕ → JournalFault → Type 0
IsOnlyFault file (Damaged place) = ((other : ℕ) → IsFault file (Damaged other) → other ≡ place) × ((h : History) → StandsFor file h → ⊥)
IsOnlyFault file DiskFault = Unit {0}
IsOnlyFault file Memory = Unit {0}

-- the base that was read and the entries that are read are those of this history
abbrev pub AreOf : Contents → History → Type 0
AreOf c h =
    (list : List EntryAt) × IsRead (file_of c.entries) list × FitsIn h.base.state.roster c.base
    × (h ≡ history_of h.base.state.roster c.base list)

-- the answer is the contents of this history, or the disk failed, or there was no memory
abbrev pub IsAnswer : Result Contents JournalFault → History → Type 0
IsAnswer (Ok c) h = AreOf c h
IsAnswer (Err (Damaged place)) h = ⊥
IsAnswer (Err DiskFault) h = Unit {0}
IsAnswer (Err Memory) h = Unit {0}

-- Each fact below says nothing where the disk tells nothing.

-- what is read of the file is read of the disk's content
abbrev pub FindsEntries : Option disks.History → Entries → Type 0
FindsEntries None e = Unit {0}
FindsEntries (Some disk) e = (list : List EntryAt) → IsRead (file_of e) list → IsRead disk.content list

-- the content's body is in this spelling behind its records
abbrev pub FindsSpelling : Option disks.History → Spelling → Type 0
FindsSpelling None spelling = Unit {0}
FindsSpelling (Some disk) spelling = GoesOnIn disk.content spelling

-- the disk's content has this base
abbrev pub FindsBase : Option disks.History → Option BaseAt → Type 0
FindsBase None base = Unit {0}
FindsBase (Some disk) base = HasBase disk.content base

-- whatever history the disk's content stands for is the answer
abbrev pub GivesOnly : Option disks.History → Result Contents JournalFault → Type 0
GivesOnly None answer = Unit {0}
GivesOnly (Some disk) answer = (h : History) → StandsFor disk.content h → IsAnswer answer h

-- the fault tells true, and is the only one
abbrev pub FindsFault : Option disks.History → JournalFault → Type 0
FindsFault None fault = Unit {0}
FindsFault (Some disk) fault = IsFault disk.content fault × IsOnlyFault disk.content fault
