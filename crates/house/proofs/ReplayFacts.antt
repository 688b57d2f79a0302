-- Entries that are read, and made again one after another.
use Rattle.std.proofs.Common.{◌≡◌, inl, inr, ℕ, ◌<◌, List, [], ◌∷◌, ◌++◌, length, map, Some, None, refl, sym, ◌∙◌, subst, ap, arith, append_assoc, length-append}
use Rattle.std.proofs.lemmas.List.{append-nil, map-append, length-map}
use Rattle.command_types.specs.declared.ask.Entry.{Entry}
use Rattle.command_types.specs.declared.figures.Start.{Start}
use Rattle.command_types.specs.declared.figures.State.{State}
use Rattle.command_types.specs.Machine.{state_after}
use Rattle.command_types.specs.History.{History, IsAcceptedIn, IsLegalFrom, longer, replayed_from}
use Rattle.journal_core.specs.Holds.{limit}
use Rattle.recovery.specs.declared.entries.EntryAt.{EntryAt}
use Rattle.journal_core.specs.declared.fault.JournalFault.{JournalFault}
use Rattle.journal_core.specs.declared.fault.JournalFault.TheVariants.{Damaged, DiskFault, Memory}
use Rattle.recovery.specs.declared.reader.EntryReader.{EntryReader}
use Rattle.recovery.specs.Reading.{entries_in, IsRead, AreLeft, IsNext}
use Rattle.recovery.proofs.EntryFacts.{read_few}
use Rattle.cycle_states.specs.Replayed.{history_from, IsReplayed}
use Rattle.cycle_states.proofs.DeskFacts.{replayed_more}
use Rattle.house.specs.Opening.{IsReplayFault}

abbrev pub entry_of : EntryAt → Entry
entry_of x = x.entry

-- ---- entries that are replayed

-- behind changes that were accepted, the fault of the others is that of all
fault_behind : (s : State) (front others : List EntryAt) (fault : JournalFault) → IsLegalFrom s (map entry_of front) → IsReplayFault (replayed_from s (map entry_of front)) others fault → IsReplayFault s (front ++ others) fault
fault_behind s [] others fault legal told = told
fault_behind s (x ∷ front) others (Damaged place) legal told = inr (legal.0, fault_behind (state_after s x.entry.ask) front others (Damaged place) legal.1 told)
fault_behind s (x ∷ front) others DiskFault legal told = absurd told
fault_behind s (x ∷ front) others Memory legal told = tt

-- the first of some changes is the one that is refused
fault_before : (s : State) (x : EntryAt) (others : List EntryAt) (fault : JournalFault) → IsReplayFault s (x ∷ []) fault → IsReplayFault s (x ∷ others) fault
fault_before s x others (Damaged place) (inl bad) = inl bad
fault_before s x others (Damaged place) (inr bad) = absurd bad.1
fault_before s x others DiskFault told = absurd told
fault_before s x others Memory told = tt

-- The first of these changes are the entries so far, and the others are still to be read.
pub record FrontRead (list : List EntryAt) (reader : EntryReader) (entries : List Entry) : Type 0 where
  pub front : List EntryAt
  pub others : List EntryAt
  pub split : list ≡ front ++ others
  pub same : entries ≡ map entry_of front
  pub left : AreLeft reader others

-- The machine has made the changes so far of those that the file stands for, which are those of a history with this base.
pub record ReplayedSoFar (base : Start) (file : List ℕ) (reader : EntryReader) (now : State) (h : History) : Type 0 where
  pub replayed : IsReplayed now h
  pub begins : h.base ≡ base
  pub read : (list : List EntryAt) → IsRead file list → FrontRead list reader h.entries

module _ (base : Start) (file : List ℕ) where
  pub so_far_none : (reader : EntryReader) (now : State) (h : History) → h ≡ history_from base.position base.state [] → now ≡ base.state
      → ((list : List EntryAt) → IsRead file list → AreLeft reader list) → ReplayedSoFar base file reader now h
  so_far_none reader now h none here all =
      subst (λ (x : History). ReplayedSoFar base file reader now x) (sym none)
      (record {
        replayed = record { same = here; legal = tt };
        begins = refl;
        read = λ list is. record { front = []; others = list; split = refl; same = refl; left = all list is };
      })

  next_read : (list : List EntryAt) (reader next : EntryReader) (x : EntryAt) (entries more : List Entry) (f : FrontRead list reader entries) → more ≡ entries ++ x.entry ∷ [] → IsNext f.others next (Some x) → FrontRead list next more
  next_read list reader next x entries more f grown n = record {
    front = f.front ++ x ∷ [];
    others = n.0;
    split = f.split ∙ ap (λ (l : List EntryAt). f.front ++ l) n.1 ∙ sym (append_assoc f.front (x ∷ []) n.0);
    same = grown ∙ ap (λ (es : List Entry). es ++ x.entry ∷ []) f.same ∙ sym (map-append entry_of f.front (x ∷ []));
    left = n.2;
  }

  pub so_far_more : (reader next : EntryReader) (now after : State) (h more : History) (x : EntryAt) (entry : Entry) → ReplayedSoFar base file reader now h
      → ((list : List EntryAt) → AreLeft reader list → IsNext list next (Some x)) → entry ≡ x.entry → IsAcceptedIn now x.entry → after ≡ state_after now x.entry.ask → more ≡ longer h (entry ∷ [])
      → ReplayedSoFar base file next after more
  so_far_more reader next now after h more x entry f here is accepted on grown =
      let literal : more ≡ longer h (x.entry ∷ []) = grown ∙ ap (λ (e : Entry). longer h (e ∷ [])) is in
      subst (λ (m : History). ReplayedSoFar base file next after m) (sym literal)
      (record {
        replayed = replayed_more now after h (h.entries ++ x.entry ∷ []) x.entry f.replayed on refl accepted.0 accepted.1;
        begins = f.begins;
        read = λ list read. let g = f.read list read in next_read list reader next x h.entries (h.entries ++ x.entry ∷ []) g refl (here g.others g.left);
      })

  -- there are few so far
  pub so_far_few : (list : List EntryAt) (reader : EntryReader) (now : State) (h : History) → IsRead file list → ReplayedSoFar base file reader now h → length h.entries < limit
  so_far_few list reader now h read f =
      let g = f.read list read in
      omega (arith, read_few file list read, ap length g.split, length-append g.front g.others, ap length g.same, length-map g.front entry_of)

  -- the machine is where the changes so far lead
  pub so_far_state : (reader : EntryReader) (now : State) (h : History) → ReplayedSoFar base file reader now h → now ≡ replayed_from base.state h.entries
  so_far_state reader now h f = f.replayed.same ∙ ap (λ (b : Start). replayed_from b.state h.entries) f.begins

  -- the fault of the next change is that of all
  pub so_far_fault : (list : List EntryAt) (reader next : EntryReader) (now : State) (h : History) (x : EntryAt) (fault : JournalFault) → ReplayedSoFar base file reader now h → IsRead file list
      → ((l : List EntryAt) → AreLeft reader l → IsNext l next (Some x)) → IsReplayFault now (x ∷ []) fault → IsReplayFault base.state list fault
  so_far_fault list reader next now h x fault f read here told =
      let s = base.state in
      let g = f.read list read in
      let n = here g.others g.left in
      let there : now ≡ replayed_from s (map entry_of g.front) = so_far_state reader now h f ∙ ap (replayed_from s) g.same in
      let legal : IsLegalFrom s (map entry_of g.front) = subst (λ (es : List Entry). IsLegalFrom s es) g.same (subst (λ (b : Start). IsLegalFrom b.state h.entries) f.begins f.replayed.legal) in
      let told_there : IsReplayFault (replayed_from s (map entry_of g.front)) (x ∷ []) fault = subst (λ (t : State). IsReplayFault t (x ∷ []) fault) there told in
      subst (λ (l : List EntryAt). IsReplayFault s l fault) (sym (g.split ∙ ap (λ (l : List EntryAt). g.front ++ l) n.1))
      (fault_behind s g.front (x ∷ n.0) fault legal (fault_before (replayed_from s (map entry_of g.front)) x n.0 fault told_there))

  -- where none is left, they are all
  pub so_far_all : (list : List EntryAt) (reader next : EntryReader) (now : State) (h : History) → ReplayedSoFar base file reader now h → IsRead file list
      → ((l : List EntryAt) → AreLeft reader l → IsNext l next None) → h.entries ≡ entries_in list
  so_far_all list reader next now h f read here =
      let g = f.read list read in
      let whole : list ≡ g.front = g.split ∙ ap (λ (l : List EntryAt). g.front ++ l) (here g.others g.left) ∙ append-nil g.front in
      g.same ∙ ap (map entry_of) (sym whole)

  -- reading on fails for want of memory alone
  pub so_far_memory : (list : List EntryAt) (reader : EntryReader) (now : State) (h : History) (fault : JournalFault) → ReplayedSoFar base file reader now h → IsRead file list
      → ((l : List EntryAt) → AreLeft reader l → fault ≡ Memory) → IsReplayFault base.state list fault
  so_far_memory list reader now h fault f read here =
      let g = f.read list read in subst (λ (e : JournalFault). IsReplayFault base.state list e) (sym (here g.others g.left)) tt
