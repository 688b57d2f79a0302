-- The one place at which a file is damaged that stands for no legal history of a roster.
use Rattle.std.proofs.Common.{◌≡◌, ◌⊎◌, inl, inr, ⊎_elim, ℕ, List, [], ◌∷◌, map, Option, Some, None, refl, sym, ◌∙◌, subst, ap}
use Rattle.command_types.specs.declared.ask.Entry.{Entry}
use Rattle.command_types.specs.declared.figures.Start.{Start}
use Rattle.command_types.specs.declared.figures.State.{State}
use Rattle.command_types.specs.Bases.{Fits}
use Rattle.command_types.specs.Machine.{state_after}
use Rattle.command_types.specs.History.{History, IsLegal, IsLegalFrom}
use Rattle.command_types.specs.Roster.{Rows}
use Rattle.outside.specs.Disk as disks
use Rattle.recovery.specs.declared.contents.BaseAt.{BaseAt}
use Rattle.recovery.specs.declared.entries.Entries.{Entries}
use Rattle.recovery.specs.declared.entries.EntryAt.{EntryAt}
use Rattle.journal_core.specs.declared.fault.JournalFault.{JournalFault}
use Rattle.journal_core.specs.declared.fault.JournalFault.TheVariants.{Damaged, DiskFault, Memory}
use Rattle.recovery.specs.StandsFor.{StandsFor}
use Rattle.recovery.specs.Reading.{file_of, entries_in, start_of, history_of, FitsIn, HasBase, IsRead, HasRead, FindsEntries, FindsBase, FindsFault as FindsReadFault}
use Rattle.recovery.proofs.EntryFacts.{read_no_fault}
use Rattle.house.specs.Storing.{ContentStandsFor}
use Rattle.house.specs.Opening.{IsFirstRefused, IsMisfit, IsRefused, IsDamaged, TellsTrue, IsOnlyFault, IsBeginFault, IsReplayFault, FindsFault}
use Rattle.house.proofs.JournalFacts.{contents_stand, contents_read, read_one_way, one_base}
use Rattle.house.proofs.ReplayFacts.{entry_of}

same_refused : (s : State) (xs : List EntryAt) (p q : ℕ) → IsFirstRefused s xs p → IsFirstRefused s xs q → p ≡ q
same_refused s [] p q a b = absurd a
same_refused s (x ∷ xs) p q (inl a) (inl b) = a.1 ∙ sym b.1
same_refused s (x ∷ xs) p q (inl a) (inr b) = absurd (a.0 b.0)
same_refused s (x ∷ xs) p q (inr a) (inl b) = absurd (b.0 a.0)
same_refused s (x ∷ xs) p q (inr a) (inr b) = same_refused (state_after s x.entry.ask) xs p q a.1 b.1

refused_illegal : (s : State) (xs : List EntryAt) (place : ℕ) → IsFirstRefused s xs place → IsLegalFrom s (map entry_of xs) → ⊥
refused_illegal s [] place a legal = a
refused_illegal s (x ∷ xs) place (inl a) legal = a.0 legal.0
refused_illegal s (x ∷ xs) place (inr a) legal = refused_illegal (state_after s x.entry.ask) xs place a.1 legal.1

-- A base and entries were read of the file.
module _ (roster : Rows) (file : List ℕ) (base : Option BaseAt) (list : List EntryAt) (has : HasBase file base) (read : IsRead file list) where
  -- so it is damaged only where the base does not fit, or an entry is refused
  undamaged : (other : ℕ) → IsDamaged roster file other → IsMisfit roster file other ⊎ IsRefused roster file other
  undamaged other (inl damaged) = absurd (read_no_fault file base list other has read damaged)
  undamaged other (inr others) = others

  -- where the base fits, it does not fail to
  fits_here : FitsIn roster base → (x : BaseAt) → HasBase file (Some x) → Fits roster x.base
  fits_here fits x there = subst (FitsIn roster) (one_base file base (Some x) has there) fits

  other_refused : FitsIn roster base → (place other : ℕ) → IsFirstRefused (start_of roster base).state list place → IsDamaged roster file other → other ≡ place
  other_refused fits place other bad damaged = ⊎_elim
      (λ (m : IsMisfit roster file other). absurd (m.4 (fits_here fits m.0 m.2)))
      (λ (r : IsRefused roster file other).
      same_refused (start_of roster base).state list other place
      (subst (λ (l : List EntryAt). IsFirstRefused (start_of roster base).state l other) (read_one_way file r.1 list r.3 read)
      (subst (λ (b : Option BaseAt). IsFirstRefused (start_of roster b).state r.1 other) (one_base file r.0 base r.2 has) r.5)) bad)
      (undamaged other damaged)

  -- no legal history of the roster has the entries
  refused_none : (place : ℕ) → IsFirstRefused (start_of roster base).state list place → (h : History) → h.base.state.roster ≡ roster → StandsFor file h → IsLegal h → ⊥
  refused_none place bad h same stands legal =
      let is : h ≡ history_of roster base list = subst (λ (r : Rows). h ≡ history_of r base list) same (contents_read file base list h has read stands).1 in
      refused_illegal (start_of roster base).state list place bad (subst (λ (past : History). IsLegal past) is legal)

  -- the fault of replaying what was read
  replay_told : FitsIn roster base → (fault : JournalFault) → IsReplayFault (start_of roster base).state list fault → TellsTrue roster file fault × IsOnlyFault roster file fault
  replay_told fits (Damaged place) bad = (inr (inr (base, list, has, read, fits, bad)), ((λ other damaged. other_refused fits place other bad damaged), refused_none place bad))
  replay_told fits DiskFault bad = absurd bad
  replay_told fits Memory bad = (tt, tt)

-- the base does not fit
module _ (roster : Rows) (file : List ℕ) (x : BaseAt) (list : List EntryAt) (has : HasBase file (Some x)) (read : IsRead file list) (misfits : Fits roster x.base → ⊥) where
  other_misfit : (other : ℕ) → IsDamaged roster file other → other ≡ x.at
  other_misfit other damaged = ⊎_elim
      (λ (m : IsMisfit roster file other). m.5 ∙ ap (λ (b : Option BaseAt). place_in x b) (one_base file (Some m.0) (Some x) m.2 has))
      (λ (r : IsRefused roster file other). absurd (misfits (subst (FitsIn roster) (one_base file r.0 (Some x) r.2 has) r.4)))
      (undamaged roster file (Some x) list has read other damaged)
    where
      place_in : BaseAt → Option BaseAt → ℕ
      place_in y None = y.at
      place_in y (Some z) = z.at

  misfit_none : (h : History) → h.base.state.roster ≡ roster → StandsFor file h → IsLegal h → ⊥
  misfit_none h same stands legal = misfits (subst (λ (r : Rows). FitsIn r (Some x)) same (contents_read file (Some x) list h has read stands).0)

  misfit_told : TellsTrue roster file (Damaged x.at) × IsOnlyFault roster file (Damaged x.at)
  misfit_told = (inr (inl (x, list, has, read, misfits, refl)), (other_misfit, misfit_none))

begin_told : (roster : Rows) (file : List ℕ) (base : Option BaseAt) (list : List EntryAt) (fault : JournalFault) → HasBase file base → IsRead file list → IsBeginFault roster base fault
    → TellsTrue roster file fault × IsOnlyFault roster file fault
begin_told roster file None list (Damaged place) has read bad = absurd bad
begin_told roster file (Some x) list (Damaged place) has read bad =
    subst (λ (n : ℕ). TellsTrue roster file (Damaged n) × IsOnlyFault roster file (Damaged n)) (sym bad.1) (misfit_told roster file x list has read bad.0)
begin_told roster file base list DiskFault has read bad = absurd bad
begin_told roster file base list Memory has read bad = (tt, tt)

pub begin_fault : (roster : Rows) (o : Option disks.History) (base : Option BaseAt) (e : Entries) (fault : JournalFault) → HasRead e → FindsEntries o e → FindsBase o base
    → IsBeginFault roster base fault → FindsFault roster o fault
begin_fault roster None base e fault read finds found bad = tt
begin_fault roster (Some h) base e fault read finds found bad = begin_told roster h.content base read.0 fault found (finds read.0 read.1) bad

pub replay_fault : (roster : Rows) (o : Option disks.History) (base : Option BaseAt) (e : Entries) (fault : JournalFault) → HasRead e → FindsEntries o e → FindsBase o base → FitsIn roster base
    → ((list : List EntryAt) → IsRead (file_of e) list → IsReplayFault (start_of roster base).state list fault) → FindsFault roster o fault
replay_fault roster None base e fault read finds found fits bad = tt
replay_fault roster (Some h) base e fault read finds found fits bad = replay_told roster h.content base read.0 found (finds read.0 read.1) fits fault (bad read.0 read.1)

-- the history that was replayed is the one for which the content stands
pub replay_stands : (roster : Rows) (o : Option disks.History) (base : Option BaseAt) (e : Entries) (h : History) → HasRead e → FindsEntries o e → FindsBase o base → FitsIn roster base
    → h.base ≡ start_of roster base → ((list : List EntryAt) → IsRead (file_of e) list → h.entries ≡ entries_in list) → ContentStandsFor o h
replay_stands roster None base e h read finds found fits begins those = tt
replay_stands roster (Some disk) base e h read finds found fits begins those =
    let is : h ≡ history_of roster base read.0 =
    ap (λ (b : Start). record { base = b; entries = h.entries }) begins ∙ ap (λ (es : List Entry). record { base = start_of roster base; entries = es }) (those read.0 read.1) in
    subst (λ (past : History). StandsFor disk.content past) (sym is) (contents_stand roster disk.content base read.0 found (finds read.0 read.1) fits)

-- the fault of reading
reading_told : (roster : Rows) (h : disks.History) (fault : JournalFault) → FindsReadFault (Some h) fault → TellsTrue roster h.content fault × IsOnlyFault roster h.content fault
reading_told roster h (Damaged place) finds = (
  inl finds.0,
  (
    λ other. ⊎_elim (λ damaged. finds.1.0 other damaged) (⊎_elim
        (λ (m : IsMisfit roster h.content other). absurd (read_no_fault h.content (Some m.0) m.1 place m.2 m.3 finds.0))
        (λ (r : IsRefused roster h.content other). absurd (read_no_fault h.content r.0 r.1 place r.2 r.3 finds.0))),
    λ past same stands legal. finds.1.1 past stands,
  ),
)
reading_told roster h DiskFault finds = (tt, tt)
reading_told roster h Memory finds = (tt, tt)

pub reading_fault : (roster : Rows) (o : Option disks.History) (fault : JournalFault) → FindsReadFault o fault → FindsFault roster o fault
reading_fault roster None fault finds = tt
reading_fault roster (Some h) fault finds = reading_told roster h fault finds

-- want of memory may come anywhere
pub memory_found : (roster : Rows) (o : Option disks.History) → FindsFault roster o Memory
memory_found roster None = tt
memory_found roster (Some h) = (tt, tt)
