-- What a walk over a journal's file finds.
use Rattle.std.proofs.Common.{◌≡◌, ◌⊎◌, inl, inr, ⊎_elim, ℕ, ◌+◌, ◌≤◌, ◌<◌, min, List, [], ◌∷◌, ◌++◌, length, take, drop, Option, Some, None, refl, sym, ◌∙◌, subst, ap, arith, append_assoc, length-append, take-append-drop}
use Rattle.std.proofs.lemmas.List.{take_at, take_all, take-append-le, drop-append-le, length-take, length-drop}
use Rattle.std.specs.List.{flat_map}
use Rattle.outside.specs.Disk.{History, HasLength, Reads}
use Rattle.journal_core.specs.Holds.{limit, frame, slot_place, HasSlots, IsJournal, IsShort, Holds}
use Rattle.journal_core.specs.Journal.{EndsAs, EndsAt, IsFormOf, HasForm}
use Rattle.journal_core.specs.Walk.{NamesOffset, IsDamaged, IsFault, IsWalked, FindsFault, bytes_of, base_of}
use Rattle.journal_core.specs.Lead.{IsLed}
use Rattle.journal_core.specs.declared.form.Form.{Form}
use Rattle.journal_core.specs.declared.form.Form.TheVariants.{Short, Plain, SlotsShort, Slots}
use Rattle.journal_core.specs.declared.walked.Walked.{Walked}
use Rattle.journal_core.specs.declared.fault.JournalFault.{JournalFault}
use Rattle.journal_core.specs.declared.fault.JournalFault.TheVariants.{Damaged, DiskFault, Memory}
use Rattle.journal_core.proofs.PartFacts.{length-frame, lt_or_le, take_front, bytes_before, slot_ends, slots_same, leads_same}
use Rattle.journal_core.proofs.OneReading.{only_fault}

-- What stands in a front of the file that is as long as a journal may be stands in the file.
module _ (file : List ℕ) (long : limit ≤ length file) where
  abbrev front : List ℕ
  front = take limit file

  whole : file ≡ front ++ drop limit file
  whole = sym (take-append-drop limit file)

  size : length front ≡ limit
  size = omega (arith, length-take limit file, long)

  same : (n : ℕ) → n ≤ limit → take n front ≡ take n file
  same n le = take_front n limit file le

  goes_on : (n : ℕ) (xs : List ℕ) → n ≤ limit → drop n front ≡ xs → drop n file ≡ xs ++ drop limit file
  goes_on n xs le is = ap (λ (l : List ℕ). drop n l) whole ∙ drop-append-le n front (drop limit file) (omega (arith, le, size)) ∙ ap (λ (l : List ℕ). l ++ drop limit file) is

  not_short : IsShort file → ⊥
  not_short (inl short) = omega (arith, long, short)
  not_short (inr short) = omega (arith, long, short.0)

  front_not_short : IsShort front → ⊥
  front_not_short (inl short) = omega (arith, size, short)
  front_not_short (inr short) = omega (arith, size, short.0)

  journal_all : (form : Form) (base : List ℕ) (records : List (List ℕ)) (j : IsJournal form front base records) → (k : IsJournal form file base records) × (k.place ≡ j.place)
  journal_all form base records j = (
    record {
      place = j.place;
      leads = leads_same form front file base j.place j.leads (same j.place (omega (arith, j.within)));
      gate = j.gate;
      rest = j.rest ++ drop limit file;
      split = goes_on j.place (flat_map frame records ++ j.gate ∷ j.rest) (omega (arith, j.within)) j.split ∙ append_assoc (flat_map frame records) (j.gate ∷ j.rest) (drop limit file);
      closed = j.closed;
      within = j.within;
    },
    refl,
  )

  front_holds : (base : List ℕ) (records : List (List ℕ)) → Holds front base records → Holds file base records
  front_holds base records (inl short) = absurd (front_not_short short.0)
  front_holds base records (inr (not, (form, j))) = inr (not_short, (form, (journal_all form base records j).0))

  front_ends : (form : Form) (end : ℕ) (base : List ℕ) (records : List (List ℕ)) → EndsAs form front end base records → EndsAs form file end base records
  front_ends Short end base records ends = absurd (omega (arith, size, ends.0))
  front_ends SlotsShort end base records ends = absurd (omega (arith, size, ends.0))
  front_ends Plain end base records ends = let k = journal_all Plain base records ends.0 in (k.0, omega (arith, ends.1, k.1))
  front_ends (Slots which offset) end base records ends = let k = journal_all (Slots which offset) base records ends.0 in (k.0, omega (arith, ends.1, k.1))

  named_all : (place : ℕ) → NamesOffset front place → NamesOffset file place
  named_all place n = record {
    which = n.which;
    selector = n.selector;
    header = sym (same 8 (omega arith)) ∙ n.header;
    selector_is = sym (bytes_before 8 1 25 front file (omega arith) (same 25 (omega arith))) ∙ n.selector_is;
    selects = n.selects;
    slot = sym (bytes_before (slot_place n.which) 8 25 front file (slot_ends n.selector n.which n.selects) (same 25 (omega arith))) ∙ n.slot;
    small = n.small;
  }

  base_none : (place : ℕ) → ((which : ℕ) (base : List ℕ) (gate : ℕ) → HasSlots which place front base gate → limit ≤ gate) → (which : ℕ) (base : List ℕ) (gate : ℕ) → HasSlots which place file base gate → limit ≤ gate
  base_none place none which base gate slots = ⊎_elim
      (λ small. none which base gate (slots_same which place file front base gate slots (sym (same gate (omega (arith, small))))))
      (λ large. large)
      (lt_or_le gate limit)

  module _ (from : ℕ) (records : List (List ℕ)) (tail : List ℕ) (split : drop from front ≡ flat_map frame records ++ tail) (within : from + length (flat_map frame records) < limit) where
    count : from + length (flat_map frame records) + length tail ≡ limit
    count = omega (arith, size, ap length split, length-append (flat_map frame records) tail, length-drop from front, within)

    -- a shorter list in front of the rest stands in it
    in_tail : (xs rest : List ℕ) → tail ++ drop limit file ≡ xs ++ rest → length xs ≤ length tail → tail ≡ xs ++ drop (length xs) tail
    in_tail xs rest is le =
        sym (take-append-drop (length xs) tail)
        ∙ ap (λ (l : List ℕ). l ++ drop (length xs) tail) (sym (take-append-le (length xs) tail (drop limit file) le) ∙ ap (λ (l : List ℕ). take (length xs) l) is ∙ take_at xs rest (length xs) refl)

    gates : ((gate : ℕ) (rest : List ℕ) → tail ≡ gate ∷ rest → gate ≡ 1) → (gate : ℕ) (rest : List ℕ) → tail ++ drop limit file ≡ gate ∷ rest → gate ≡ 1
    gates open_gate gate rest is = open_gate gate (drop 1 tail) (in_tail (gate ∷ []) rest is (omega (arith, count, within)))

    no_record : ((b rest : List ℕ) → tail ≡ frame b ++ rest → limit ≤ from + length (flat_map frame records) + (5 + length b)) → (b rest : List ℕ) → tail ++ drop limit file ≡ frame b ++ rest
        → limit ≤ from + length (flat_map frame records) + (5 + length b)
    no_record none b rest is = ⊎_elim
        (λ few. omega (arith, few, count, length-frame b))
        (λ some. none b (drop (length (frame b)) tail) (in_tail (frame b) rest is some))
        (lt_or_le (length tail) (length (frame b)))

  front_damaged : (place : ℕ) → IsDamaged front place → IsDamaged file place
  front_damaged place (not, inl d) = (not_short, inl (d.0, (λ is. d.1 (same 8 (omega arith) ∙ is)), (λ is. d.2 (same 8 (omega arith) ∙ is))))
  front_damaged place (not, inr (inl d)) = (not_short, inr (inl (named_all place d.0, base_none place d.1)))
  front_damaged place (not, inr (inr (form, base, from, records, tail, leads, split, here, small, open_gates, none))) =
      let within : from + length (flat_map frame records) < limit = omega (arith, here, small) in (
        not_short,
        inr (inr (
          form,
          base,
          from,
          records,
          tail ++ drop limit file,
          leads_same form front file base from leads (same from (omega (arith, within))),
          goes_on from (flat_map frame records ++ tail) (omega (arith, within)) split ∙ append_assoc (flat_map frame records) tail (drop limit file),
          here,
          small,
          gates from records tail split within open_gates,
          λ b rest is. omega (arith, here, no_record from records tail split within (λ b more at. omega (arith, here, none b more at)) b rest is),
        )),
      )

-- the bytes are the front of the content that a journal may have
abbrev pub IsPiece : Option History → List ℕ → Type 0
IsPiece None piece = Unit {0}
IsPiece (Some h) piece = piece ≡ take (min (length h.content) limit) h.content

-- all of it, or as much as a journal may have
all_or_front : (file : List ℕ) → (take (min (length file) limit) file ≡ file) ⊎ ((limit ≤ length file) × (take (min (length file) limit) file ≡ take limit file))
all_or_front file = ⊎_elim
    (λ short. inl (take_all (min (length file) limit) file (omega (arith, short))))
    (λ long. let is : min (length file) limit ≡ limit = omega (arith, long) in inr (long, ap (λ (n : ℕ). take n file) is))
    (lt_or_le (length file) limit)

pub holds_all : (file base : List ℕ) (records : List (List ℕ)) → Holds (take (min (length file) limit) file) base records → Holds file base records
holds_all file base records holds = ⊎_elim
    (λ all. subst (λ (f : List ℕ). Holds f base records) all holds)
    (λ part. front_holds file part.0 base records (subst (λ (f : List ℕ). Holds f base records) part.1 holds))
    (all_or_front file)

ends_all : (form : Form) (file : List ℕ) (end : ℕ) (base : List ℕ) (records : List (List ℕ)) → EndsAs form (take (min (length file) limit) file) end base records → EndsAs form file end base records
ends_all form file end base records ends = ⊎_elim
    (λ all. subst (λ (f : List ℕ). EndsAs form f end base records) all ends)
    (λ part. front_ends file part.0 form end base records (subst (λ (f : List ℕ). EndsAs form f end base records) part.1 ends))
    (all_or_front file)

pub ends_of : (o : Option History) (w : Walked) → IsPiece o (bytes_of w) → IsWalked w → EndsAt o w.form w.end
ends_of None w is walked = tt
ends_of (Some h) w is walked =
    (base_of w, walked.1.0, ends_all w.form h.content w.end (base_of w) walked.1.0 (subst (λ (l : List ℕ). EndsAs w.form l w.end (base_of w) walked.1.0) is walked.1.1))

front_form : (form : Form) (file : List ℕ) → limit ≤ length file → IsFormOf form (take limit file) → IsFormOf form file
front_form Short file long is = absurd (front_not_short file long is)
front_form SlotsShort file long is = absurd (front_not_short file long is)
front_form Plain file long is = not_short file long
front_form (Slots which offset) file long is = not_short file long

form_all : (form : Form) (file : List ℕ) → IsFormOf form (take (min (length file) limit) file) → IsFormOf form file
form_all form file is = ⊎_elim
    (λ all. subst (λ (f : List ℕ). IsFormOf form f) all is)
    (λ part. front_form form file part.0 (subst (λ (f : List ℕ). IsFormOf form f) part.1 is))
    (all_or_front file)

form_led : (form : Form) (file : List ℕ) (start gate : ℕ) → IsLed file form start gate → IsFormOf form file
form_led Short file start gate led = inl led.0
form_led SlotsShort file start gate led = inr (led.0, led.1)
form_led Plain file start gate led = led.long
form_led (Slots which offset) file start gate led = led.long

pub form_of : (o : Option History) (w : Walked) → IsPiece o (bytes_of w) → IsWalked w → HasForm o w.form
form_of None w is walked = tt
form_of (Some h) w is walked = form_all w.form h.content (subst (λ (l : List ℕ). IsFormOf w.form l) is (form_led w.form (bytes_of w) w.base w.gate walked.0))

damaged_all : (file : List ℕ) (place : ℕ) → IsDamaged (take (min (length file) limit) file) place → IsDamaged file place
damaged_all file place damaged = ⊎_elim
    (λ all. subst (λ (f : List ℕ). IsDamaged f place) all damaged)
    (λ part. front_damaged file part.0 place (subst (λ (f : List ℕ). IsDamaged f place) part.1 damaged))
    (all_or_front file)

fault_all : (file : List ℕ) (fault : JournalFault) → IsFault (take (min (length file) limit) file) fault → IsFault file fault
fault_all file (Damaged place) damaged = damaged_all file place damaged
fault_all file DiskFault damaged = tt
fault_all file Memory damaged = tt

pub piece_of : (o : Option History) (size n : ℕ) (old new : List ℕ) → HasLength o size → length old ≡ min size limit → Reads o 0 n old new → IsPiece o (take n new)
piece_of None size n old new long room reads = tt
piece_of (Some h) size n old new long room reads =
    let count : n ≡ min (length h.content) limit = omega (arith, reads.0, room, long) in
    let taken : length (take n h.content) ≡ n = omega (arith, length-take n h.content, count) in
    ap (λ (l : List ℕ). take n l) reads.1 ∙ take_at (take n h.content) (drop n old) n taken ∙ ap (λ (k : ℕ). take k h.content) count

pub fault_of : (o : Option History) (piece : List ℕ) (fault : JournalFault) → IsPiece o piece → IsFault piece fault → FindsFault o fault
fault_of None piece fault is told = tt
fault_of (Some h) piece fault is told =
    let all = fault_all h.content fault (subst (λ (l : List ℕ). IsFault l fault) is told) in
    (all, only_fault h.content fault all)
