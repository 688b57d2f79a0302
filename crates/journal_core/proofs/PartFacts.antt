-- Parts of a file, and what stands before its first gate.
use Rattle.std.proofs.Common.{◌≡◌, ◌≢◌, ◌⊎◌, inl, inr, ⊎_elim, ℕ, zero, suc, ◌+◌, ◌-◌, ◌≤◌, ◌<◌, List, [], ◌∷◌, ◌++◌, length, take, drop, get_or, refl, sym, ◌∙◌, subst, ap, arith, append_assoc, length-append, take-append-drop}
use Rattle.std.proofs.lemmas.List.{drop-take, length-take-le, length-drop}
use Rattle.std.proofs.Math.Seq.{take-append_seam, drop-append_seam, take-length, drop-nil}
use Rattle.std.specs.List.{flat_map}
use Rattle.journal_core.specs.Holds.{plain_header, slots_header, limit, bytes_at, frame, slot_place, Selects, HasSlots, LeadsTo, IsJournal, IsShort, Holds}
use Rattle.journal_core.specs.declared.form.Form.{Form}
use Rattle.journal_core.specs.declared.form.Form.TheVariants.{Short, Plain, SlotsShort, Slots}

pub lt_or_le : (n k : ℕ) → (n < k) ⊎ (k ≤ n)
lt_or_le n zero = inr (omega arith)
lt_or_le zero (suc k) = inl (omega arith)
lt_or_le (suc n) (suc k) = ⊎_elim (λ lt. inl (omega (arith, lt))) (λ le. inr (omega (arith, le))) (lt_or_le n k)

pub take_front : (n m : ℕ) (l : List ℕ) → n ≤ m → take n (take m l) ≡ take n l
take_front zero m l le = refl
take_front (suc n) zero l le = absurd (omega (arith, le))
take_front (suc n) (suc m) [] le = refl
take_front (suc n) (suc m) (x ∷ l) le = ap (λ (t : List ℕ). x ∷ t) (take_front n m l (omega (arith, le)))

pub drop_sum : (m n : ℕ) (l : List ℕ) → drop (m + n) l ≡ drop n (drop m l)
drop_sum zero n l = ap (λ (k : ℕ). drop k l) (omega arith)
drop_sum (suc m) n [] = drop-nil (suc m + n) ∙ sym (drop-nil n)
drop_sum (suc m) n (x ∷ l) =
    let is : suc m + n ≡ suc (m + n) = omega arith in
    ap (λ (k : ℕ). drop k (x ∷ l)) is ∙ drop_sum m n l

pub drop_behind : (p place : ℕ) (a b : List ℕ) → place ≤ p → drop place a ≡ drop place b → drop p a ≡ drop p b
drop_behind p place a b le same =
    let is : p ≡ place + (p - place) = omega (arith, le) in
    ap (λ (n : ℕ). drop n a) is ∙ drop_sum place (p - place) a ∙ ap (λ (l : List ℕ). drop (p - place) l) same
    ∙ sym (drop_sum place (p - place) b) ∙ ap (λ (n : ℕ). drop n b) (sym is)

pub take_before : (n place : ℕ) (a b : List ℕ) → n ≤ place → take place a ≡ take place b → take n a ≡ take n b
take_before n place a b le same = sym (take_front n place a le) ∙ ap (λ (l : List ℕ). take n l) same ∙ take_front n place b le

-- the bytes at a place are those of any list that has the same front, or the same rest
pub bytes_before : (p c place : ℕ) (a b : List ℕ) → p + c ≤ place → take place a ≡ take place b → bytes_at p c a ≡ bytes_at p c b
bytes_before p c place a b le same =
    sym (drop-take p c a) ∙ ap (λ (l : List ℕ). drop p l) (take_before (p + c) place a b le same) ∙ drop-take p c b

pub bytes_behind : (p c place : ℕ) (a b : List ℕ) → place ≤ p → drop place a ≡ drop place b → bytes_at p c a ≡ bytes_at p c b
bytes_behind p c place a b le same = ap (λ (l : List ℕ). take c l) (drop_behind p place a b le same)

-- a slot stands among the first 25 bytes, behind the selector
pub slot_ends : (selector which : ℕ) → Selects selector which → slot_place which + 8 ≤ 25
slot_ends selector which (inl s) = subst (λ (w : ℕ). slot_place w + 8 ≤ 25) (sym s.1) (omega arith)
slot_ends selector which (inr s) = subst (λ (w : ℕ). slot_place w + 8 ≤ 25) (sym s.1) (omega arith)

pub slot_starts : (selector which : ℕ) → Selects selector which → 9 ≤ slot_place which
slot_starts selector which (inl s) = subst (λ (w : ℕ). 9 ≤ slot_place w) (sym s.1) (omega arith)
slot_starts selector which (inr s) = subst (λ (w : ℕ). 9 ≤ slot_place w) (sym s.1) (omega arith)

pub slots_same : (which offset : ℕ) (a b base : List ℕ) (place : ℕ) → HasSlots which offset a base place → take place a ≡ take place b → HasSlots which offset b base place
slots_same which offset a b base place s same =
    let far : 29 ≤ place = omega (arith, s.low, s.place_is) in
    record {
      selector = s.selector;
      header = sym (take_before 8 place a b (omega (arith, far)) same) ∙ s.header;
      selector_is = sym (bytes_before 8 1 place a b (omega (arith, far)) same) ∙ s.selector_is;
      selects = s.selects;
      slot = sym (bytes_before (slot_place which) 8 place a b (omega (arith, far, slot_ends s.selector which s.selects)) same) ∙ s.slot;
      low = s.low;
      based = sym (bytes_before offset (4 + length base) place a b (omega (arith, s.place_is)) same) ∙ s.based;
      place_is = s.place_is;
    }

pub leads_same : (form : Form) (a b base : List ℕ) (place : ℕ) → LeadsTo form a base place → take place a ≡ take place b → LeadsTo form b base place
leads_same Short a b base place leads same = leads
leads_same Plain a b base place leads same = (sym (take_before 8 place a b (omega (arith, leads.2)) same) ∙ leads.0, leads.1, leads.2)
leads_same SlotsShort a b base place leads same = leads
leads_same (Slots which offset) a b base place leads same = slots_same which offset a b base place leads same

-- a journal as what stands before its first gate, the frames, and the rest
module _ (form : Form) (file base : List ℕ) (records : List (List ℕ)) (j : IsJournal form file base records) where
  abbrev pub lead : List ℕ
  lead = take j.place file

  pub laid : file ≡ (lead ++ flat_map frame records) ++ j.gate ∷ j.rest
  laid = sym (take-append-drop j.place file) ∙ ap (λ (l : List ℕ). lead ++ l) j.split ∙ sym (append_assoc lead (flat_map frame records) (j.gate ∷ j.rest))

  pub lead_size : length lead ≡ j.place
  lead_size =
      let some : 1 ≤ length (drop j.place file) = omega (arith, ap length j.split, length-append (flat_map frame records) (j.gate ∷ j.rest)) in
      length-take-le j.place file (omega (arith, some, length-drop j.place file))

  pub lead_leads : LeadsTo form lead base (length lead)
  lead_leads =
      subst (λ (n : ℕ). LeadsTo form lead base n) (sym lead_size)
      (leads_same form file lead base j.place j.leads (sym (take_front j.place j.place file (omega arith))))

-- and back, with the first gate behind what stands before it
pub laid_out : (form : Form) (lead base : List ℕ) (records : List (List ℕ)) (file : List ℕ) (gate : ℕ) (rest : List ℕ) → LeadsTo form lead base (length lead)
    → file ≡ (lead ++ flat_map frame records) ++ gate ∷ rest → gate ≢ 1 → length lead + length (flat_map frame records) < limit
    → (j : IsJournal form file base records) × (j.place ≡ length lead)
laid_out form lead base records file gate rest leads is closed within =
    let whole : file ≡ lead ++ (flat_map frame records ++ gate ∷ rest) = is ∙ append_assoc lead (flat_map frame records) (gate ∷ rest) in
    let front : take (length lead) file ≡ lead = ap (λ (l : List ℕ). take (length lead) l) whole ∙ take-append_seam lead (flat_map frame records ++ gate ∷ rest) in (
      record {
        place = length lead;
        leads = leads_same form lead file base (length lead) leads (take-length lead ∙ sym front);
        gate = gate;
        rest = rest;
        split = ap (λ (l : List ℕ). drop (length lead) l) whole ∙ drop-append_seam lead (flat_map frame records ++ gate ∷ rest);
        closed = closed;
        within = within;
      },
      refl,
    )

pub length-frame : (bytes : List ℕ) → length (frame bytes) ≡ 5 + length bytes
length-frame bytes = omega arith

no_frames : (records : List (List ℕ)) → length (flat_map frame records) < 5 → records ≡ []
no_frames [] short = refl
no_frames (r ∷ records) short = absurd (omega (arith, short, length-append (frame r) (flat_map frame records), length-frame r))

no_bytes : (l : List ℕ) → length l ≡ 0 → l ≡ []
no_bytes [] none = refl
no_bytes (x ∷ l) none = absurd (omega (arith, none))

pub other_header : (file : List ℕ) → take 8 file ≡ plain_header → take 8 file ≡ slots_header → ⊥
other_header file plain slots = omega (arith, ap (λ (l : List ℕ). get_or l 7 0) (sym plain ∙ slots))

-- how long a journal's file is
file_size : (form : Form) (file base : List ℕ) (records : List (List ℕ)) (j : IsJournal form file base records) → j.place + length (flat_map frame records) + 1 ≤ length file
file_size form file base records j = omega (arith, length-drop j.place file, ap length j.split, length-append (flat_map frame records) (j.gate ∷ j.rest))

long_plain : (file : List ℕ) → take 8 file ≡ plain_header → 10 ≤ length file → IsShort file → ⊥
long_plain file plain long (inl short) = omega (arith, long, short)
long_plain file plain long (inr short) = other_header file plain short.1

long_slots : (file : List ℕ) → 31 ≤ length file → IsShort file → ⊥
long_slots file long (inl short) = omega (arith, long, short)
long_slots file long (inr short) = omega (arith, long, short.0)

-- a journal holds its base and its records
pub journal_holds : (form : Form) (file base : List ℕ) (records : List (List ℕ)) → IsJournal form file base records → Holds file base records
journal_holds Short file base records j = absurd j.leads
journal_holds SlotsShort file base records j = absurd j.leads
journal_holds Plain file base records j =
    let size = file_size Plain file base records j in
    ⊎_elim
    (λ short. inl (inl short, j.leads.1, no_frames records (omega (arith, short, size, j.leads.2))))
    (λ long. inr (long_plain file j.leads.0 long, (Plain, j)))
    (lt_or_le (length file) 10)
journal_holds (Slots which offset) file base records j =
    let size = file_size (Slots which offset) file base records j in
    let place : j.place ≡ offset + 4 + length base = j.leads.place_is in
    let low : 25 ≤ offset = j.leads.low in
    ⊎_elim
    (λ short. inl (inr (short, j.leads.header), no_bytes base (omega (arith, short, size, place, low)), no_frames records (omega (arith, short, size, place, low))))
    (λ long. inr (long_slots file long, (Slots which offset, j)))
    (lt_or_le (length file) 31)
