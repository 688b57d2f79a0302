-- Records that are read one after another: those that spelled entries so far, and the entries that are left.
use Rattle.std.proofs.Common.{◌≡◌, inl, inr, ℕ, true, false, List, [], ◌∷◌, ◌++◌, length, Some, refl, subst, sym, ◌∙◌, ap, arith, append_assoc}
use Rattle.std.proofs.lemmas.List.{append-nil}
use Rattle.std.specs.List.{AllZip}
use Rattle.command_types.specs.Bases.{spelling_behind}
use Rattle.command_types.specs.declared.spelling.Spelling.{Spelling}
use Rattle.command_types.specs.declared.spelling.Spelling.TheVariants.{Second}
use Rattle.journal_core.specs.Holds.{Holds}
use Rattle.journal_core.specs.Records.{IsNext}
use Rattle.journal_core.specs.Walk.{bytes_of as walked_bytes, base_of, gate_of, placed, IsWalked}
use Rattle.journal_core.specs.declared.walked.Walked.{Walked}
use Rattle.recovery.specs.Bodies.{Placed, turns, changes_of, spelling_after}
use Rattle.recovery.specs.StandsFor.{changes_at}
use Rattle.recovery.specs.Reading.{SpellsAt, AreSpelled, IsFaultAmong, IsRead, AreAheadOf, changes_ahead, IsFirstOf, HasNone, AreLeft, IsNext as IsNextOf}
use Rattle.recovery.specs.declared.body.Body.{Body}
use Rattle.recovery.specs.declared.entries.EntryAt.{EntryAt}
use Rattle.journal_core.specs.declared.fault.JournalFault.{JournalFault}
use Rattle.journal_core.specs.declared.fault.JournalFault.TheVariants.{Damaged, DiskFault, Memory}
use Rattle.journal_core.proofs.OneReading.{one_reading}
use Rattle.recovery.proofs.PlaceFacts.{at_holds, ends_hold, one_gate, walked_at}
use Rattle.recovery.proofs.BodyFacts.{plain_first, turned_first, plain_after, turned_after}
use Rattle.recovery.proofs.EntryFacts.{AllZip-more, same_items}

-- ---- the next of a body

-- behind the first record of those ahead are the others
next_placed : (place : ℕ) (records : List (List ℕ)) (bytes : List ℕ) (next : ℕ) (rest : List ℕ) (n : IsNext place records bytes next rest) → placed place records ≡ (place, bytes) ∷ placed next n.others
next_placed place records bytes next rest n =
    ap (placed place) n.split ∙ ap (λ (k : ℕ). (place, bytes) ∷ placed k n.others) (sym n.behind)

-- a record that turns nothing
pub first_plain : (old new : Body) (records : List (List ℕ)) (bytes : List ℕ) → IsNext old.records.at records bytes new.records.at new.records.rest.now → turns old.spelling bytes ≡ false → new.spelling ≡ old.spelling
    → IsFirstOf old new records (old.records.at, (new.spelling, bytes))
first_plain old new records bytes n plain same =
    let s = old.spelling in
    let place = old.records.at in
    let split = ap (λ (l : List (ℕ × List ℕ)). changes_of s l) (next_placed place records bytes new.records.at new.records.rest.now n) ∙ plain_first s place bytes (placed new.records.at n.others) plain in
    let last = ap (λ (l : List (List ℕ)). spelling_after s l) n.split ∙ plain_after s bytes n.others plain in record {
      others = n.others;
      split = split ∙ ap (λ (t : Spelling). (place, (t, bytes)) ∷ changes_of t (placed new.records.at n.others)) (sym same);
      last = last ∙ ap (λ (t : Spelling). spelling_after t n.others) (sym same);
      ahead = n.ahead;
    }

-- one that turns the body, and one behind it
pub first_turned : (old mid new : Body) (records : List (List ℕ)) (bytes found : List ℕ) (n : IsNext old.records.at records bytes mid.records.at mid.records.rest.now) → turns old.spelling bytes ≡ true
    → IsNext mid.records.at n.others found new.records.at new.records.rest.now → new.spelling ≡ Second → IsFirstOf old new records (mid.records.at, (new.spelling, found))
first_turned old mid new records bytes found n turned m second =
    let s = old.spelling in
    let place = old.records.at in
    let next = mid.records.at in
    let here = ap (λ (l : List (ℕ × List ℕ)). changes_of s l) (next_placed place records bytes next mid.records.rest.now n) ∙ turned_first s place bytes (placed next n.others) turned in
    let there = ap (λ (l : List (ℕ × List ℕ)). changes_of Second l) (next_placed next n.others found new.records.at new.records.rest.now m) in
    let last = ap (λ (l : List (List ℕ)). spelling_after s l) n.split ∙ turned_after s bytes n.others turned ∙ ap (λ (l : List (List ℕ)). spelling_after Second l) m.split in record {
      others = m.others;
      split = here ∙ there ∙ ap (λ (t : Spelling). (next, (t, found)) ∷ changes_of t (placed new.records.at m.others)) (sym second);
      last = last ∙ ap (λ (t : Spelling). spelling_after t m.others) (sym second);
      ahead = m.ahead;
    }

-- no record
pub none_ahead : (old new : Body) (records : List (List ℕ)) → records ≡ [] → new.spelling ≡ old.spelling → HasNone old new records
none_ahead old new records none same = (
  ap (λ (l : List (List ℕ)). changes_ahead old l) none,
  same ∙ sym (ap (λ (l : List (List ℕ)). spelling_after old.spelling l) none),
)

-- one that turns the body, and none behind it
pub none_turned : (old mid new : Body) (records : List (List ℕ)) (bytes : List ℕ) (n : IsNext old.records.at records bytes mid.records.at mid.records.rest.now) → turns old.spelling bytes ≡ true → n.others ≡ [] → new.spelling ≡ Second
    → HasNone old new records
none_turned old mid new records bytes n turned none second =
    let s = old.spelling in
    let place = old.records.at in
    let next = mid.records.at in (
      ap (λ (l : List (ℕ × List ℕ)). changes_of s l) (next_placed place records bytes next mid.records.rest.now n) ∙ turned_first s place bytes (placed next n.others) turned
          ∙ ap (λ (l : List (List ℕ)). changes_of Second (placed next l)) none,
      second ∙ sym (ap (λ (l : List (List ℕ)). spelling_after s l) n.split ∙ turned_after s bytes n.others turned ∙ ap (λ (l : List (List ℕ)). spelling_after Second l) none),
    )

-- ---- records that spell entries

-- behind records that spell entries, the fault of the others is that of all
fault_behind : (rs others : List Placed) (xs : List EntryAt) (fault : JournalFault) → AllZip SpellsAt rs xs → IsFaultAmong others fault → IsFaultAmong (rs ++ others) fault
fault_behind [] others xs fault all told = told
fault_behind (r ∷ rs) others [] fault all told = absurd all
fault_behind (r ∷ rs) others (x ∷ xs) (Damaged place) all told = inr ((x.entry, all.0.1), fault_behind rs others xs (Damaged place) all.1 told)
fault_behind (r ∷ rs) others (x ∷ xs) DiskFault all told = absurd told
fault_behind (r ∷ rs) others (x ∷ xs) Memory all told = tt

-- the first of some is the one that is bad
fault_before : (r : Placed) (others : List Placed) (fault : JournalFault) → IsFaultAmong (r ∷ []) fault → IsFaultAmong (r ∷ others) fault
fault_before r others (Damaged place) (inl bad) = inl bad
fault_before r others (Damaged place) (inr bad) = absurd bad.1
fault_before r others DiskFault told = absurd told
fault_before r others Memory told = tt

-- Of a body that begins in this spelling, the first that are to spell changes spell entries, and the others are ahead.
pub record SpelledFront (initial : Spelling) (gate : ℕ) (records : List (List ℕ)) (body : Body) : Type 0 where
  pub front : List Placed
  pub list : List EntryAt
  pub others : List (List ℕ)
  pub split : changes_of initial (placed gate records) ≡ front ++ changes_ahead body others
  pub last : spelling_after initial records ≡ spelling_after body.spelling others
  pub spelled : AllZip SpellsAt front list
  pub ahead : AreAheadOf body others

pub spelled_none : (initial : Spelling) (gate : ℕ) (records : List (List ℕ)) (body : Body) → body.records.at ≡ gate → body.spelling ≡ initial → AreAheadOf body records → SpelledFront initial gate records body
spelled_none initial gate records body place same ahead = record {
  front = [];
  list = [];
  others = records;
  split = ap (λ (n : ℕ). changes_of initial (placed n records)) (sym place) ∙ ap (λ (t : Spelling). changes_of t (placed body.records.at records)) (sym same);
  last = ap (λ (t : Spelling). spelling_after t records) (sym same);
  spelled = tt;
  ahead = ahead;
}

-- one more
pub spelled_more : (initial : Spelling) (gate : ℕ) (records : List (List ℕ)) (body new : Body) (found : Placed) (x : EntryAt) (f : SpelledFront initial gate records body) → IsFirstOf body new f.others found → SpellsAt found x
    → SpelledFront initial gate records new
spelled_more initial gate records body new found x f n here = record {
  front = f.front ++ found ∷ [];
  list = f.list ++ x ∷ [];
  others = n.others;
  split = f.split ∙ ap (λ (l : List Placed). f.front ++ l) n.split ∙ sym (append_assoc f.front (found ∷ []) (changes_ahead new n.others));
  last = f.last ∙ n.last;
  spelled = AllZip-more SpellsAt f.front f.list found x f.spelled here;
  ahead = n.ahead;
}

-- the fault of the first that is bad is that of all
pub spelled_fault : (initial : Spelling) (gate : ℕ) (records : List (List ℕ)) (body new : Body) (found : Placed) (fault : JournalFault) (f : SpelledFront initial gate records body) → IsFirstOf body new f.others found
    → IsFaultAmong (found ∷ []) fault → IsFaultAmong (changes_of initial (placed gate records)) fault
spelled_fault initial gate records body new found fault f n told =
    let behind = changes_ahead new n.others in
    let split : changes_of initial (placed gate records) ≡ f.front ++ (found ∷ behind) = f.split ∙ ap (λ (l : List Placed). f.front ++ l) n.split in
    subst (λ (l : List Placed). IsFaultAmong l fault) (sym split) (fault_behind f.front (found ∷ behind) f.list fault f.spelled (fault_before found behind fault told))

-- where none is ahead, all spell entries
pub spelled_all : (initial : Spelling) (gate : ℕ) (records : List (List ℕ)) (body new : Body) (f : SpelledFront initial gate records body) → HasNone body new f.others → AreSpelled (changes_of initial (placed gate records))
spelled_all initial gate records body new f none =
    let split : changes_of initial (placed gate records) ≡ f.front = f.split ∙ ap (λ (l : List Placed). f.front ++ l) none.0 ∙ append-nil f.front in
    (f.list, subst (λ (l : List Placed). AllZip SpellsAt l f.list) (sym split) f.spelled)

-- and the body goes on as it is
pub spelled_last : (initial : Spelling) (gate : ℕ) (records : List (List ℕ)) (body new : Body) (f : SpelledFront initial gate records body) → HasNone body new f.others → new.spelling ≡ spelling_after initial records
spelled_last initial gate records body new f none = none.1 ∙ sym f.last

-- ---- the entries that are left

-- of entries that are left, the first is the one that is spelled next
pub left_next : (old new : Body) (records : List (List ℕ)) (found : Placed) (list : List EntryAt) (x : EntryAt) → IsFirstOf old new records found → AllZip SpellsAt (changes_ahead old records) list → SpellsAt found x
    → IsNextOf list (record { body = new }) (Some x)
left_next old new records found list x n spelled here = by_first list (subst (λ (l : List Placed). AllZip SpellsAt l list) n.split spelled)
  where
    by_first : (l : List EntryAt) → AllZip SpellsAt (found ∷ changes_ahead new n.others) l → IsNextOf l (record { body = new }) (Some x)
    by_first [] all = absurd all
    by_first (y ∷ ys) all =
        let same : y ∷ ys ≡ x ∷ ys = ap (λ (l : List EntryAt). l ++ ys) (same_items (found ∷ []) (y ∷ []) (x ∷ []) (all.0, tt) (here, tt)) in
        (ys, same, (n.others, n.ahead, all.1))

-- and it spells some
pub left_spelled : (old new : Body) (records : List (List ℕ)) (found : Placed) (list : List EntryAt) (fault : JournalFault) → IsFirstOf old new records found → AllZip SpellsAt (changes_ahead old records) list
    → IsFaultAmong (found ∷ []) fault → fault ≡ Memory
left_spelled old new records found list Memory n spelled told = refl
left_spelled old new records found list DiskFault n spelled told = absurd told
left_spelled old new records found list (Damaged at) n spelled (inr bad) = absurd bad.1
left_spelled old new records found list (Damaged at) n spelled (inl bad) = by_first list (subst (λ (l : List Placed). AllZip SpellsAt l list) n.split spelled)
  where
    by_first : (l : List EntryAt) → AllZip SpellsAt (found ∷ changes_ahead new n.others) l → Damaged at ≡ Memory
    by_first [] all = absurd all
    by_first (y ∷ ys) all = absurd (bad.0 (y.entry, all.0.1))

-- where none is ahead, no entry is left
pub left_none : (rs : List Placed) (list : List EntryAt) → rs ≡ [] → AllZip SpellsAt rs list → list ≡ []
left_none [] [] none spelled = refl
left_none [] (x ∷ list) none spelled = absurd spelled
left_none (r ∷ rs) list none spelled = absurd (omega (arith, ap length none))

-- all entries are left at the first record
pub left_all : (w : Walked) (list : List EntryAt) (body : Body) → IsWalked w → body.records.at ≡ gate_of w → body.spelling ≡ spelling_behind (base_of w)
    → ((base : List ℕ) (records : List (List ℕ)) → Holds (walked_bytes w) base records → AreAheadOf body records)
    → IsRead (walked_bytes w) list → AreLeft (record { body = body }) list
left_all w list body walked first same ahead read =
    let file = walked_bytes w in
    let held = at_holds file read.0 read.1 read.2 read.3 in
    let at = walked_at w read.0 read.1 walked held in
    let base : base_of w ≡ read.0 = (one_reading file (base_of w) read.0 walked.1.0 read.1 (ends_hold w.form file w.end (base_of w) walked.1.0 walked.1.1) held).0 in
    let gates : placed read.2 read.1 ≡ placed body.records.at read.1 = one_gate file read.0 read.0 read.1 read.1 read.2 (gate_of w) read.3 at ∙ ap (λ (n : ℕ). placed n read.1) (sym first) in
    let here : changes_at read.0 read.2 read.1 ≡ changes_ahead body read.1 =
    ap (λ (l : List (ℕ × List ℕ)). changes_of (spelling_behind read.0) l) gates
    ∙ ap (λ (b : List ℕ). changes_of (spelling_behind b) (placed body.records.at read.1)) (sym base)
    ∙ ap (λ (t : Spelling). changes_of t (placed body.records.at read.1)) (sym same) in
    (read.1, ahead read.0 read.1 held, subst (λ (l : List Placed). AllZip SpellsAt l list) here read.4)
