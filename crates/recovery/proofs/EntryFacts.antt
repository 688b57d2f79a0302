-- The histories for which files stand, and what is read of them.
use Rattle.std.proofs.Common.{◌≡◌, inl, inr, ℕ, suc, ◌≤◌, ◌<◌, List, [], ◌∷◌, ◌++◌, length, Option, refl, subst, sym, ◌∙◌, ap, arith, length-append}
use Rattle.std.specs.List.{AllZip, flat_map}
use Rattle.command_types.specs.declared.ask.Entry.{Entry}
use Rattle.command_types.specs.declared.figures.Start.{Start}
use Rattle.command_types.specs.History.{History}
use Rattle.command_types.specs.Roster.{Rows}
use Rattle.command_types.specs.Bases.{spelling_behind}
use Rattle.journal_core.specs.Holds.{limit, frame, Holds}
use Rattle.recovery.specs.Bodies.{Written, Placed, changes_in, changes_of}
use Rattle.journal_core.proofs.OneReading.{one_reading, one_place, not_both}
use Rattle.record_codec.proofs.RecordReading.{unique}
use Rattle.recovery.specs.StandsFor.{SpellAll, SpellsAs, StandsFor, StandsForBase, HoldsAt, changes_at, IsFirstBad, IsUnreadable}
use Rattle.recovery.specs.Reading.{entries_in, SpellsAt, IsRead, HasBase, FitsIn, start_of, history_of}
use Rattle.recovery.specs.Reading.{IsFault, IsOnlyFault}
use Rattle.recovery.specs.Laws.{FilesStandForOneHistory}
use Rattle.recovery.specs.declared.contents.BaseAt.{BaseAt}
use Rattle.recovery.specs.declared.entries.EntryAt.{EntryAt}
use Rattle.journal_core.specs.declared.fault.JournalFault.{JournalFault}
use Rattle.journal_core.specs.declared.fault.JournalFault.TheVariants.{Damaged, DiskFault, Memory}
use Rattle.recovery.proofs.PlaceFacts.{at_holds, one_gate}
use Rattle.recovery.proofs.BodyFacts.{written_in, written_in-changes, few_changes}
use Rattle.recovery.proofs.BaseFacts.{stands_spelled, one_start, read_of, bad_holds, bad_unread, bad_at}

-- ---- one reading

same_entries : (ws : List Written) (a b : List Entry) → AllZip SpellsAs ws a → AllZip SpellsAs ws b → a ≡ b
same_entries [] [] [] s t = refl
same_entries [] [] (y ∷ b) s t = absurd t
same_entries [] (x ∷ a) b s t = absurd s
same_entries (w ∷ ws) [] b s t = absurd s
same_entries (w ∷ ws) (x ∷ a) [] s t = absurd t
same_entries (w ∷ ws) (x ∷ a) (y ∷ b) s t = ap (λ (e : Entry). e ∷ a) (unique w.0 w.1 x y s.0 t.0) ∙ ap (λ (l : List Entry). y ∷ l) (same_entries ws a b s.1 t.1)

-- one base and one list of records have one list of what is to spell changes
one_body : (b c : List ℕ) (rs ss : List (List ℕ)) → b ≡ c → rs ≡ ss → changes_in (spelling_behind b) rs ≡ changes_in (spelling_behind c) ss
one_body b c rs ss base records =
    ap (λ (x : List ℕ). changes_in (spelling_behind x) rs) base ∙ ap (λ (l : List (List ℕ)). changes_in (spelling_behind c) l) records

-- and a file has it with one list of places
pub one_placing : (file b c : List ℕ) (rs ss : List (List ℕ)) (p q : ℕ) → HoldsAt file b rs p → HoldsAt file c ss q → changes_at b p rs ≡ changes_at c q ss
one_placing file b c rs ss p q here there =
    let one = one_reading file b c rs ss (at_holds file b rs p here) (at_holds file c ss q there) in
    ap (λ (x : List ℕ). changes_at x p rs) one.0 ∙ ap (λ (l : List (ℕ × List ℕ)). changes_of (spelling_behind c) l) (one_gate file b c rs ss p q here there)

-- a file's histories have the same changes,
pub one_list_of_entries : (file : List ℕ) (a b : History) → StandsFor file a → StandsFor file b → a.entries ≡ b.entries
one_list_of_entries file a b s t =
    let one = one_reading file s.0 t.0 s.1 t.1 s.2 t.2 in
    let same = one_body s.0 t.0 s.1 t.1 one.0 one.1 in
    same_entries (changes_in (spelling_behind t.0) t.1) a.entries b.entries (subst (λ (l : List Written). AllZip SpellsAs l a.entries) same s.4) t.4

-- and those of one roster begin at one place
pub one_history : FilesStandForOneHistory
one_history file a b roster s t =
    let one = one_reading file s.0 t.0 s.1 t.1 s.2 t.2 in
    let base : a.base ≡ b.base = one_start t.0 a.base b.base roster (subst (λ (l : List ℕ). StandsForBase l a.base) one.0 s.3) t.3 in
    ap (λ (start : Start). record { base = start; entries = a.entries }) base
    ∙ ap (λ (es : List Entry). record { base = b.base; entries = es }) (one_list_of_entries file a b s t)

-- the first bad record is one
same_first : (rs : List Placed) (p q : ℕ) → IsFirstBad rs p → IsFirstBad rs q → p ≡ q
same_first [] p q a b = absurd a
same_first (r ∷ rs) p q (inl a) (inl b) = a.1 ∙ sym b.1
same_first (r ∷ rs) p q (inl a) (inr b) = absurd (a.0 b.0)
same_first (r ∷ rs) p q (inr a) (inl b) = absurd (b.0 a.0)
same_first (r ∷ rs) p q (inr a) (inr b) = same_first rs p q a.1 b.1

-- where one is bad, no entries are spelled
none_spelled : (rs : List Placed) (place : ℕ) (entries : List Entry) → IsFirstBad rs place → AllZip SpellsAs (written_in rs) entries → ⊥
none_spelled [] place entries bad s = bad
none_spelled (r ∷ rs) place [] bad s = s
none_spelled (r ∷ rs) place (x ∷ entries) (inl bad) s = bad.0 (x, s.0)
none_spelled (r ∷ rs) place (x ∷ entries) (inr bad) s = none_spelled rs place entries bad.1 s.1

unreadable_holds : (file : List ℕ) (place : ℕ) (bad : IsUnreadable file place) → Holds file bad.0 bad.1
unreadable_holds file place bad = at_holds file bad.0 bad.1 bad.2 bad.3

unreadable_at : (file : List ℕ) (p q : ℕ) → IsUnreadable file p → IsUnreadable file q → p ≡ q
unreadable_at file p q a b =
    same_first (changes_at b.0 b.2 b.1) p q (subst (λ (l : List Placed). IsFirstBad l p) (one_placing file a.0 b.0 a.1 b.1 a.2 b.2 a.3 b.3) a.5) b.5

unreadable_stands_for_none : (file : List ℕ) (place : ℕ) (h : History) → IsUnreadable file place → StandsFor file h → ⊥
unreadable_stands_for_none file place h bad s =
    let one = one_reading file s.0 bad.0 s.1 bad.1 s.2 (unreadable_holds file place bad) in
    let same : changes_in (spelling_behind s.0) s.1 ≡ written_in (changes_at bad.0 bad.2 bad.1) =
    one_body s.0 bad.0 s.1 bad.1 one.0 one.1 ∙ sym (written_in-changes (spelling_behind bad.0) bad.2 bad.1) in
    none_spelled (changes_at bad.0 bad.2 bad.1) place h.entries bad.5 (subst (λ (l : List Written). AllZip SpellsAs l h.entries) same s.4)

only_place : (file : List ℕ) (p q : ℕ) → IsFault file (Damaged p) → IsFault file (Damaged q) → q ≡ p
only_place file p q (inl a) (inl b) = one_place file q p b a
only_place file p q (inl a) (inr (inl b)) = absurd (not_both file b.1 b.2 p (bad_holds file q b) a)
only_place file p q (inl a) (inr (inr b)) = absurd (not_both file b.0 b.1 p (unreadable_holds file q b) a)
only_place file p q (inr (inl a)) (inl b) = absurd (not_both file a.1 a.2 q (bad_holds file p a) b)
only_place file p q (inr (inl a)) (inr (inl b)) = bad_at file q p b a
only_place file p q (inr (inl a)) (inr (inr b)) = absurd (bad_unread file p b.0 b.1 a (unreadable_holds file q b) b.4)
only_place file p q (inr (inr a)) (inl b) = absurd (not_both file a.0 a.1 q (unreadable_holds file p a) b)
only_place file p q (inr (inr a)) (inr (inl b)) = absurd (bad_unread file q a.0 a.1 b (unreadable_holds file p a) a.4)
only_place file p q (inr (inr a)) (inr (inr b)) = unreadable_at file q p b a

pub stands_for_none : (file : List ℕ) (place : ℕ) (h : History) → IsFault file (Damaged place) → StandsFor file h → ⊥
stands_for_none file place h (inl damaged) s = not_both file s.0 s.1 place s.2 damaged
stands_for_none file place h (inr (inl bad)) s = bad_unread file place s.0 s.1 bad s.2 (stands_spelled s.0 h.base s.3)
stands_for_none file place h (inr (inr bad)) s = unreadable_stands_for_none file place h bad s

pub only_fault : (file : List ℕ) (fault : JournalFault) → IsFault file fault → IsOnlyFault file fault
only_fault file (Damaged place) told = (λ other is. only_place file place other told is, λ h s. stands_for_none file place h told s)
only_fault file DiskFault told = tt
only_fault file Memory told = tt

-- ---- what was read of the records

spell_all : (rs : List Placed) (xs : List EntryAt) → AllZip SpellsAt rs xs → AllZip SpellsAs (written_in rs) (entries_in xs)
spell_all [] [] is = tt
spell_all [] (x ∷ xs) is = absurd is
spell_all (r ∷ rs) [] is = absurd is
spell_all (r ∷ rs) (x ∷ xs) is = (is.0.1, spell_all rs xs is.1)

pub read_spell : (file : List ℕ) (list : List EntryAt) (read : IsRead file list) → SpellAll (spelling_behind read.0) read.1 (entries_in list)
read_spell file list read =
    subst (λ (l : List Written). AllZip SpellsAs l (entries_in list)) (written_in-changes (spelling_behind read.0) read.2 read.1) (spell_all (changes_at read.0 read.2 read.1) list read.4)

-- what is read of a file is what it stands for, over each roster that its base fits
pub read_stand : (roster : Rows) (file : List ℕ) (base : Option BaseAt) (list : List EntryAt) → HasBase file base → IsRead file list → FitsIn roster base → StandsFor file (history_of roster base list)
read_stand roster file base list has read fits =
    let front = read_of file base has in
    let holds = at_holds file read.0 read.1 read.2 read.3 in
    let one = one_reading file front.bytes read.0 front.records read.1 front.holds holds in
    (read.0, read.1, holds, subst (λ (l : List ℕ). StandsForBase l (start_of roster base)) one.0 (front.starts roster fits), read_spell file list read)

-- and a file stands for nothing else
pub stands_read : (file : List ℕ) (base : Option BaseAt) (list : List EntryAt) (h : History) → HasBase file base → IsRead file list → StandsFor file h
    → FitsIn h.base.state.roster base × (h ≡ history_of h.base.state.roster base list)
stands_read file base list h has read s =
    let roster = h.base.state.roster in
    let front = read_of file base has in
    let one = one_reading file s.0 front.bytes s.1 front.records s.2 front.holds in
    let begins = front.begins h.base (subst (λ (l : List ℕ). StandsForBase l h.base) one.0 s.3) in
    (begins.0, one_history file h (history_of roster base list) (ap (λ (start : Start). start.state.roster) begins.1) s (read_stand roster file base list has read begins.0))

-- what is read has no fault
pub read_no_fault : (file : List ℕ) (base : Option BaseAt) (list : List EntryAt) (place : ℕ) → HasBase file base → IsRead file list → IsFault file (Damaged place) → ⊥
read_no_fault file base list place has read (inl damaged) = not_both file read.0 read.1 place (at_holds file read.0 read.1 read.2 read.3) damaged
read_no_fault file base list place has read (inr (inl bad)) =
    let front = read_of file base has in bad_unread file place front.bytes front.records bad front.holds front.spelled
read_no_fault file base list place has read (inr (inr bad)) =
    let here = one_placing file read.0 bad.0 read.1 bad.1 read.2 bad.2 read.3 bad.3 in
    let zip = subst (λ (l : List Placed). AllZip SpellsAt l list) here read.4 in
    none_spelled (changes_at bad.0 bad.2 bad.1) place (entries_in list) bad.5 (spell_all (changes_at bad.0 bad.2 bad.1) list zip)

pub same_items : (rs : List Placed) (xs ys : List EntryAt) → AllZip SpellsAt rs xs → AllZip SpellsAt rs ys → xs ≡ ys
same_items [] [] [] s t = refl
same_items [] [] (y ∷ ys) s t = absurd t
same_items [] (x ∷ xs) ys s t = absurd s
same_items (r ∷ rs) [] ys s t = absurd s
same_items (r ∷ rs) (x ∷ xs) [] s t = absurd t
same_items (r ∷ rs) (x ∷ xs) (y ∷ ys) s t =
    let place : x.at ≡ y.at = s.0.0 ∙ sym t.0.0 in
    let one : x.entry ≡ y.entry = unique r.1.0 r.1.1 x.entry y.entry s.0.1 t.0.1 in
    ap (λ (n : ℕ). record { at = n; entry = x.entry } ∷ xs) place ∙ ap (λ (e : Entry). record { at = y.at; entry = e } ∷ xs) one
    ∙ ap (λ (l : List EntryAt). y ∷ l) (same_items rs xs ys s.1 t.1)

-- entries are read with the same places each time
pub read_one_way : (file : List ℕ) (xs ys : List EntryAt) → IsRead file xs → IsRead file ys → xs ≡ ys
read_one_way file xs ys a b =
    same_items (changes_at b.0 b.2 b.1) xs ys (subst (λ (l : List Placed). AllZip SpellsAt l xs) (one_placing file a.0 b.0 a.1 b.1 a.2 b.2 a.3 b.3) a.4) b.4

-- one more on each side
pub AllZip-more : {A B : Type 0} (R : A → B → Type 0) (xs : List A) (ys : List B) (x : A) (y : B) → AllZip R xs ys → R x y → AllZip R (xs ++ x ∷ []) (ys ++ y ∷ [])
AllZip-more R [] [] x y all here = (here, tt)
AllZip-more R [] (b ∷ ys) x y all here = absurd all
AllZip-more R (a ∷ xs) [] x y all here = absurd all
AllZip-more R (a ∷ xs) (b ∷ ys) x y all here = (all.0, AllZip-more R xs ys x y all.1 here)

-- a file has few records
frames_long : (records : List (List ℕ)) → length records ≤ length (flat_map frame records)
frames_long [] = omega arith
frames_long (r ∷ records) = omega (arith, length-append (frame r) (flat_map frame records), frames_long records)

as_many : (rs : List Placed) (list : List EntryAt) → AllZip SpellsAt rs list → length rs ≡ length list
as_many [] [] zip = refl
as_many [] (x ∷ list) zip = absurd zip
as_many (r ∷ rs) [] zip = absurd zip
as_many (r ∷ rs) (x ∷ list) (here, rest) = ap suc (as_many rs list rest)

few_held : (file base : List ℕ) (records : List (List ℕ)) (gate : ℕ) → HoldsAt file base records gate → length records < limit
few_held file base records gate (inl short) = omega (arith, ap length short.2)
few_held file base records gate (inr (form, j, there)) = omega (arith, j.within, frames_long records)

pub read_few : (file : List ℕ) (list : List EntryAt) → IsRead file list → length list < limit
read_few file list read =
    omega (arith, few_held file read.0 read.1 read.2 read.3, few_changes (spelling_behind read.0) read.2 read.1, as_many (changes_at read.0 read.2 read.1) list read.4)
