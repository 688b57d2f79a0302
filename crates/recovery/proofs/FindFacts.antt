-- What is read of the bytes that a walk read, as what the disk's content holds.
use Rattle.std.proofs.Common.{◌≡◌, ◌∙◌, ap, inl, inr, ℕ, List, [], Ok, Err, Option, Some, None, subst, sym}
use Rattle.std.specs.Prelude.{◌⊎◌, IfSome}
use Rattle.std.specs.List.{AllZip}
use Rattle.command_types.specs.Bases.{CanBeWritten}
use Rattle.outside.specs.Disk as disks
use Rattle.journal_core.specs.Holds.{IsJournal, Holds}
use Rattle.journal_core.specs.Journal.{EndsAs, EndsAt}
use Rattle.journal_core.specs.RecordBytes.{walked_of}
use Rattle.journal_core.specs.Walk.{bytes_of, base_of, gate_of, placed, IsWalked, FindsRecords, FindsFault as FindsWalkFault}
use Rattle.journal_core.specs.declared.form.Form.{Form}
use Rattle.journal_core.specs.declared.form.Form.TheVariants.{Slots}
use Rattle.journal_core.specs.declared.walked.Walked.{Walked}
use Rattle.journal_core.specs.declared.fault.JournalFault.{JournalFault}
use Rattle.journal_core.specs.declared.fault.JournalFault.TheVariants.{Damaged, DiskFault, Memory}
use Rattle.journal_core.proofs.OneReading.{one_reading}
use Rattle.command_types.specs.Bases.{spelling_behind}
use Rattle.command_types.specs.declared.spelling.Spelling.{Spelling}
use Rattle.recovery.specs.Bodies.{Placed, changes_of, spelling_after}
use Rattle.recovery.specs.StandsFor.{HoldsAt, SpellsSomeBase, IsFirstBad}
use Rattle.recovery.specs.Reading.{SpellsAt, AreSpelled, IsFaultAmong, IsRead, HasRead, HasBase, IsBaseOf, IsBaseFault}
use Rattle.recovery.specs.Reading.{IsFault, FindsEntries, FindsSpelling, FindsBase, GivesOnly, FindsFault}
use Rattle.recovery.specs.declared.contents.BaseAt.{BaseAt}
use Rattle.recovery.specs.declared.contents.Contents.{Contents}
use Rattle.recovery.specs.declared.entries.Entries.{Entries}
use Rattle.recovery.specs.declared.entries.EntryAt.{EntryAt}
use Rattle.recovery.proofs.PlaceFacts.{at_holds, ends_hold, walked_at, held_alike}
use Rattle.recovery.proofs.BaseFacts.{written_can}
use Rattle.recovery.proofs.EntryFacts.{only_fault, stands_read}

-- what a walk found, held by the bytes that it read
pub walked_holds : (w : Walked) (walked : IsWalked w) → Holds (bytes_of w) (base_of w) walked.1.0
walked_holds w walked = ends_hold w.form (bytes_of w) w.end (base_of w) walked.1.0 walked.1.1

-- the spelling in which its body begins
abbrev pub first_of : Walked → Spelling
first_of w = spelling_behind (base_of w)

-- what is to spell changes of these records, behind its base
abbrev pub changes_walked : Walked → List (List ℕ) → List Placed
changes_walked w records = changes_of (first_of w) (placed (gate_of w) records)

-- where all that is to spell changes does, the entries are read
pub has_read : (w : Walked) (walked : IsWalked w) (e : Entries) → walked_of e.records ≡ w → e.first ≡ first_of w → AreSpelled (changes_of e.first (placed (gate_of w) walked.1.0)) → HasRead e
has_read w walked e of_walk is spelled =
    let here : AllZip SpellsAt (changes_walked w walked.1.0) spelled.0 = subst (λ (s : Spelling). AllZip SpellsAt (changes_of s (placed (gate_of w) walked.1.0)) spelled.0) is spelled.1 in
    subst (λ (v : Walked). (list : List EntryAt) × IsRead (bytes_of v) list × IsWalked v × (e.first ≡ first_of v)) (sym of_walk)
    (spelled.0, (base_of w, walked.1.0, gate_of w, walked_at w (base_of w) walked.1.0 walked (walked_holds w walked), here), walked, is)

-- its base can be written
pub can_be_written : (w : Walked) (base : Option BaseAt) → IsBaseOf w base → IfSome base (λ x. CanBeWritten x.base)
can_be_written w None is = tt
can_be_written w (Some x) is = written_can x.base is.2.fields

-- and is none, or spelled
base_spelled : (w : Walked) (base : Option BaseAt) → IsBaseOf w base → (base_of w ≡ []) ⊎ SpellsSomeBase (base_of w)
base_spelled w None is = inl is
base_spelled w (Some x) is = inr (x.base, is.2)

-- ---- on the disk

-- What a walk found, and a content that holds what the bytes hold, has their form, and ends there.
module _ (disk : disks.History) (w : Walked) (walked : IsWalked w) (finds : FindsRecords (Some disk) w) (ends : EndsAt (Some disk) w.form w.end) where
  -- the records of the bytes have their gates there in the content, too
  content_at : (base : List ℕ) (records : List (List ℕ)) (gate : ℕ) → HoldsAt (bytes_of w) base records gate
      → (there : ℕ) × HoldsAt disk.content base records there × (placed gate records ≡ placed there records)
  content_at base records gate at =
      held_alike w.form (bytes_of w) disk.content w.end w.end (base_of w) ends.0 walked.1.0 ends.1 base records gate walked.1.1 ends.2 at (finds.0 base records (at_holds (bytes_of w) base records gate at))

  -- the content holds the base
  content_holds : Holds disk.content (base_of w) walked.1.0
  content_holds = finds.0 (base_of w) walked.1.0 (walked_holds w walked)

  -- in the selected slot, if it has one
  content_slot : (which place : ℕ) → w.form ≡ Slots which place → IsJournal (Slots which place) disk.content (base_of w) ends.1
  content_slot which place is =
      let here = subst (λ (f : Form). EndsAs f disk.content w.end ends.0 ends.1) is ends.2 in
      let one = one_reading disk.content ends.0 (base_of w) ends.1 walked.1.0 (ends_hold w.form disk.content w.end ends.0 ends.1 ends.2) content_holds in
      subst (λ (b : List ℕ). IsJournal (Slots which place) disk.content b ends.1) one.0 here.0

  read_content : (list : List EntryAt) → IsRead (bytes_of w) list → IsRead disk.content list
  read_content list read =
      let at = content_at read.0 read.1 read.2 read.3 in
      (read.0, read.1, at.0, at.1, subst (λ (l : List (ℕ × List ℕ)). AllZip SpellsAt (changes_of (spelling_behind read.0) l) list) at.2 read.4)

  spelling_content : (initial last : Spelling) → initial ≡ first_of w → last ≡ spelling_after initial walked.1.0 → FindsSpelling (Some disk) last
  spelling_content initial last begins is =
      (base_of w, walked.1.0, content_holds, is ∙ ap (λ (s : Spelling). spelling_after s walked.1.0) begins)

  base_content : (base : Option BaseAt) → IsBaseOf w base → HasBase disk.content base
  base_content None is = (walked.1.0, subst (λ (b : List ℕ). Holds disk.content b walked.1.0) is content_holds)
  base_content (Some x) is = (is.0, base_of w, ends.1, content_slot is.0 x.at is.1, is.2)

  bad_content : (fault : JournalFault) → IsBaseFault w fault → IsFault disk.content fault
  bad_content (Damaged place) bad = inr (inl (bad.0, base_of w, ends.1, content_slot bad.0 place bad.1, bad.2, bad.3))
  bad_content DiskFault bad = tt
  bad_content Memory bad = tt

  among_content : (base : Option BaseAt) (fault : JournalFault) → IsBaseOf w base → IsFaultAmong (changes_walked w walked.1.0) fault → IsFault disk.content fault
  among_content base (Damaged place) is bad =
      let at = content_at (base_of w) walked.1.0 (gate_of w) (walked_at w (base_of w) walked.1.0 walked (walked_holds w walked)) in
      inr (inr (base_of w, walked.1.0, at.0, at.1, base_spelled w base is, subst (λ (l : List (ℕ × List ℕ)). IsFirstBad (changes_of (first_of w) l) place) at.2 bad))
  among_content base DiskFault is bad = tt
  among_content base Memory is bad = tt

pub found_of : (o : Option disks.History) (w : Walked) (e : Entries) → walked_of e.records ≡ w → IsWalked w → FindsRecords o w → EndsAt o w.form w.end → FindsEntries o e
found_of None w e is walked finds ends = tt
found_of (Some disk) w e is walked finds ends =
    λ list read. read_content disk w walked finds ends list (subst (λ (v : Walked). IsRead (bytes_of v) list) is read)

pub spelling_of : (o : Option disks.History) (w : Walked) (initial last : Spelling) (walked : IsWalked w) → FindsRecords o w → EndsAt o w.form w.end → initial ≡ first_of w → last ≡ spelling_after initial walked.1.0 → FindsSpelling o last
spelling_of None w initial last walked finds ends begins is = tt
spelling_of (Some disk) w initial last walked finds ends begins is = spelling_content disk w walked finds ends initial last begins is

pub base_on : (o : Option disks.History) (w : Walked) (base : Option BaseAt) → IsWalked w → FindsRecords o w → EndsAt o w.form w.end → IsBaseOf w base → FindsBase o base
base_on None w base walked finds ends is = tt
base_on (Some disk) w base walked finds ends is = base_content disk w walked finds ends base is

-- ---- faults

-- the fault of its base
pub fault_before : (o : Option disks.History) (w : Walked) (fault : JournalFault) → IsWalked w → FindsRecords o w → EndsAt o w.form w.end → IsBaseFault w fault → FindsFault o fault
fault_before None w fault walked finds ends bad = tt
fault_before (Some disk) w fault walked finds ends bad =
    let told = bad_content disk w walked finds ends fault bad in (told, only_fault disk.content fault told)

-- the fault of its records
pub fault_among : (o : Option disks.History) (w : Walked) (base : Option BaseAt) (initial : Spelling) (fault : JournalFault) (walked : IsWalked w) → FindsRecords o w → EndsAt o w.form w.end → IsBaseOf w base → initial ≡ first_of w
    → IsFaultAmong (changes_of initial (placed (gate_of w) walked.1.0)) fault → FindsFault o fault
fault_among None w base initial fault walked finds ends is begins bad = tt
fault_among (Some disk) w base initial fault walked finds ends is begins bad =
    let here : IsFaultAmong (changes_walked w walked.1.0) fault = subst (λ (s : Spelling). IsFaultAmong (changes_of s (placed (gate_of w) walked.1.0)) fault) begins bad in
    let told = among_content disk w walked finds ends base fault is here in (told, only_fault disk.content fault told)

-- a walk's fault
walk_told : (h : disks.History) (fault : JournalFault) → FindsWalkFault (Some h) fault → IsFault h.content fault
walk_told h (Damaged place) finds = inl finds.0
walk_told h DiskFault finds = tt
walk_told h Memory finds = tt

pub fault_of : (o : Option disks.History) (fault : JournalFault) → FindsWalkFault o fault → FindsFault o fault
fault_of None fault finds = tt
fault_of (Some h) fault finds =
    let told : IsFault h.content fault = walk_told h fault finds in (told, only_fault h.content fault told)

-- ---- the answer is the only one

pub only_of : (o : Option disks.History) (c : Contents) → HasRead c.entries → FindsEntries o c.entries → FindsBase o c.base → GivesOnly o (Ok c)
only_of None c read finds has = tt
only_of (Some disk) c read finds has = λ h s.
    let is = stands_read disk.content c.base read.0 h has (finds read.0 read.1) s in
    (read.0, read.1, is.0, is.1)

pub only_fault_of : (o : Option disks.History) (fault : JournalFault) → FindsFault o fault → GivesOnly o (Err fault)
only_fault_of None fault told = tt
only_fault_of (Some disk) (Damaged place) told = λ h s. told.1.1 h s
only_fault_of (Some disk) DiskFault told = λ h s. tt
only_fault_of (Some disk) Memory told = λ h s. tt
