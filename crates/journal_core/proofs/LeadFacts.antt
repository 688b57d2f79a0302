-- What stands before the first gate, as a walk reads it.
use Rattle.std.proofs.Common.{◌≡◌, ◌≢◌, inl, inr, ⊎_elim, ℕ, ◌+◌, ◌-◌, ◌≤◌, ◌<◌, ◌^◌, List, [], ◌∷◌, ◌++◌, length, take, drop, get_or, Option, Some, None, refl, sym, ◌∙◌, subst, ap, arith, append_assoc, length-append, take-append-drop}
use Rattle.std.proofs.lemmas.List.{take_at, drop_more, drop_all, length-take, length-drop, flat_map_more}
use Rattle.std.proofs.Math.Seq.{take-append_seam}
use Rattle.std.specs.Int.{w32, w64, to_le_bytes}
use Rattle.std.specs.List.{flat_map}
use Rattle.outside.specs.Disk.{History}
use Rattle.journal_core.specs.Holds.{slots_header, limit, bytes_at, frame, slot_place, Selects, HasSlots, IsJournal, end_in, IsShort, Holds}
use Rattle.journal_core.specs.Journal.{EndsAs}
use Rattle.journal_core.specs.Records.{AreAhead}
use Rattle.journal_core.specs.Lead.{IsLongLed, IsLed, EndsBehind, EndsLed}
use Rattle.journal_core.specs.Walk.{NamesNoRecord, NamesOffset, BreaksAt, IsBreak, IsBadLead, IsDamaged, IsFault, IsWalked, FindsRecords, bytes_of, base_of}
use Rattle.journal_core.specs.declared.form.Form.{Form}
use Rattle.journal_core.specs.declared.form.Form.TheVariants.{Short, Plain, SlotsShort, Slots}
use Rattle.journal_core.specs.declared.walked.Walked.{Walked}
use Rattle.journal_core.specs.declared.fault.JournalFault.{JournalFault}
use Rattle.journal_core.specs.declared.fault.JournalFault.TheVariants.{Damaged, DiskFault, Memory}
use Rattle.journal_core.proofs.PartFacts.{length-frame, drop_sum, lt_or_le, journal_holds}
use Rattle.journal_core.proofs.OneReading.{same_base, one_lead, one_reading}
use Rattle.journal_core.proofs.WalkFacts.{IsPiece, holds_all}

-- one byte
byte_at : (place : ℕ) (file : List ℕ) → place < length file → bytes_at place 1 file ≡ get_or file place 0 ∷ []
byte_at place file within = ap (λ (l : List ℕ). take 1 l) (drop_more file place 0 within)

module _ (file : List ℕ) (which slot offset : ℕ) (long : 31 ≤ length file) (header : take 8 file ≡ slots_header) (selects : Selects (get_or file 8 0) which)
    (slot_is : slot ≡ slot_place which) (named : bytes_at slot 8 file ≡ to_le_bytes w64 offset) (bits : offset < 2 ^ 64) where
  in_slot : bytes_at (slot_place which) 8 file ≡ to_le_bytes w64 offset
  in_slot = ap (λ (k : ℕ). bytes_at k 8 file) (sym slot_is) ∙ named

  names : NamesOffset file offset
  names = record { which = which; selector = get_or file 8 0; header = header; selector_is = byte_at 8 file (omega (arith, long)); selects = selects; slot = in_slot; small = bits }

  not_short : IsShort file → ⊥
  not_short (inl short) = omega (arith, long, short)
  not_short (inr short) = omega (arith, long, short.0)

  pub low_offset : offset < 25 → IsDamaged file offset
  low_offset low = (not_short, inr (inl (names, λ w base gate slots. absurd (omega (arith, low, slots.low)))))

  pub far_offset : length file < offset → IsDamaged file offset
  far_offset far = (
    not_short,
    inr (inl (
      names,
      λ w base gate slots.
          absurd (omega (arith, ap length slots.based, length-append (to_le_bytes w32 (length base)) base, length-take (4 + length base) (drop offset file), length-drop offset file, far)),
    )),
  )

  pub no_record : (body : List ℕ) → body ≡ drop offset file → NamesNoRecord body → IsDamaged file offset
  no_record body is none = (
    not_short,
    inr (inl (
      names,
      λ w base gate slots.
          let there : body ≡ to_le_bytes w32 (length base) ++ base ++ drop (4 + length base) (drop offset file) =
          is ∙ sym (take-append-drop (4 + length base) (drop offset file)) ∙ ap (λ (l : List ℕ). l ++ drop (4 + length base) (drop offset file)) slots.based in
          omega (arith, none base (drop (4 + length base) (drop offset file)) there, slots.place_is),
    )),
  )

  module _ (base rest : List ℕ) (found : drop offset file ≡ to_le_bytes w32 (length base) ++ base ++ rest) (few : length base < 2 ^ 32) where
    abbrev written : List ℕ
    written = to_le_bytes w32 (length base) ++ base

    size : length written ≡ 4 + length base
    size = length-append (to_le_bytes w32 (length base)) base

    based : bytes_at offset (4 + length base) file ≡ written
    based = ap (λ (l : List ℕ). take (4 + length base) l) found ∙ take_at written rest (4 + length base) size

    pub far_base : limit ≤ offset + 4 + length base → IsDamaged file offset
    far_base far = (
      not_short,
      inr (inl (
        names,
        λ w other gate slots. ⊎_elim
            (λ short. let same : base ≡ other = same_base offset file base other few short based slots.based in omega (arith, far, slots.place_is, ap length same))
            (λ large. omega (arith, large, slots.place_is))
            (lt_or_le (length other) (2 ^ 32)),
      )),
    )

    pub slots_led : 25 ≤ offset → offset ≤ length file → offset + 4 + length base < limit → IsLed file (Slots which offset) (offset + 4) (offset + 4 + length base)
    slots_led low near small =
        let behind : drop (offset + 4) file ≡ base ++ rest =
        drop_sum offset 4 file ∙ ap (λ (l : List ℕ). drop 4 l) found in
        let width : (offset + 4 + length base) - (offset + 4) ≡ length base = omega arith in
        let here : take ((offset + 4 + length base) - (offset + 4)) (drop (offset + 4) file) ≡ base =
        ap (λ (n : ℕ). take n (drop (offset + 4) file)) width ∙ ap (λ (l : List ℕ). take (length base) l) behind ∙ take-append_seam base rest in
        record {
          long = not_short;
          order = omega arith;
          within = omega (arith, near, ap length found, size, length-append written rest, length-drop offset file);
          leads = subst (λ (b : List ℕ). HasSlots which offset file b (offset + 4 + length base)) (sym here) (record {
            selector = get_or file 8 0;
            header = header;
            selector_is = byte_at 8 file (omega (arith, long));
            selects = selects;
            slot = in_slot;
            low = low;
            based = based;
            place_is = refl;
          });
          small = small;
        }

no_bytes : (l : List ℕ) → length l ≡ 0 → l ≡ []
no_bytes [] none = refl
no_bytes (x ∷ l) none = absurd (omega (arith, none))

-- ---- the whole file

led_journal : (form : Form) (file : List ℕ) (start gate end : ℕ) → IsLongLed form file start gate → EndsBehind gate (drop gate file) end
    → (records : List (List ℕ)) × ((j : IsJournal form file (take (gate - start) (drop start file)) records) × (end ≡ end_in j))
led_journal form file start gate end led ends =
    (ends.records, (record { place = gate; leads = led.leads; gate = ends.shut; rest = ends.rest; split = ends.split; closed = ends.closed; within = ends.within }, ends.there))

pub walked_short : (w : Walked) → w.form ≡ Short → IsLed w.bytes.items Short w.base w.gate → w.end ≡ 30 → IsWalked w
walked_short w is led end =
    let none : base_of w ≡ [] = no_bytes (base_of w) (omega (arith, length-take (w.gate - w.base) (drop w.base w.bytes.items), led.1, led.2)) in
    (subst (λ (f : Form). IsLed (bytes_of w) f w.base w.gate) (sym is) led, ([], subst (λ (f : Form). EndsAs f (bytes_of w) w.end (base_of w) []) (sym is) (led.0, none, refl, end)))

pub walked_slots_short : (w : Walked) → w.form ≡ SlotsShort → IsLed w.bytes.items SlotsShort w.base w.gate → w.end ≡ 30 → IsWalked w
walked_slots_short w is led end =
    let none : base_of w ≡ [] = no_bytes (base_of w) (omega (arith, length-take (w.gate - w.base) (drop w.base w.bytes.items), led.2, led.3)) in
    (subst (λ (f : Form). IsLed (bytes_of w) f w.base w.gate) (sym is) led, ([], subst (λ (f : Form). EndsAs f (bytes_of w) w.end (base_of w) []) (sym is) (led.0, led.1, none, refl, end)))

pub walked_plain : (w : Walked) → w.form ≡ Plain → IsLed w.bytes.items Plain w.base w.gate → EndsBehind w.gate (drop w.gate w.bytes.items) w.end → IsWalked w
walked_plain w is led ends =
    let j = led_journal Plain w.bytes.items w.base w.gate w.end led ends in
    (subst (λ (f : Form). IsLed (bytes_of w) f w.base w.gate) (sym is) led, (j.0, subst (λ (f : Form). EndsAs f (bytes_of w) w.end (base_of w) j.0) (sym is) (j.1.0, j.1.1)))

pub walked_slots : (w : Walked) (which offset : ℕ) → w.form ≡ Slots which offset → IsLed w.bytes.items (Slots which offset) w.base w.gate → EndsBehind w.gate (drop w.gate w.bytes.items) w.end → IsWalked w
walked_slots w which offset is led ends =
    let j = led_journal (Slots which offset) w.bytes.items w.base w.gate w.end led ends in
    (subst (λ (f : Form). IsLed (bytes_of w) f w.base w.gate) (sym is) led, (j.0, subst (λ (f : Form). EndsAs f (bytes_of w) w.end (base_of w) j.0) (sym is) (j.1.0, j.1.1)))

pub broken : (form : Form) (file : List ℕ) (start gate place : ℕ) → IsLongLed form file start gate → BreaksAt gate (drop gate file) place → IsDamaged file place
broken form file start gate place led b =
    (led.long, inr (inr (form, take (gate - start) (drop start file), gate, b.records, b.tail, led.leads, b.split, b.here, b.small, b.opens, b.none)))

pub walked_by : (form : Form) (w : Walked) → w.form ≡ form → IsLed (bytes_of w) form w.base w.gate → EndsLed form (bytes_of w) w.gate w.end → IsWalked w
walked_by Short w is led ends = walked_short w is led ends
walked_by SlotsShort w is led ends = walked_slots_short w is led ends
walked_by Plain w is led ends = walked_plain w is led ends
walked_by (Slots which offset) w is led ends = walked_slots w which offset is led ends

pub broken_by : (form : Form) (file : List ℕ) (start gate : ℕ) (fault : JournalFault) → IsLongLed form file start gate → IsBreak gate (drop gate file) fault → IsBadLead file fault
broken_by form file start gate (Damaged place) led b = broken form file start gate place led b
broken_by form file start gate DiskFault led b = b
broken_by form file start gate Memory led b = b

pub bad_is_fault : (file : List ℕ) (fault : JournalFault) → IsBadLead file fault → IsFault file fault
bad_is_fault file (Damaged place) bad = bad
bad_is_fault file DiskFault bad = tt
bad_is_fault file Memory bad = tt

-- the bytes of a slot
pub named_by : (slot offset : ℕ) (file : List ℕ) → to_le_bytes w64 offset ≡ take (slot + 8 - slot) (drop slot file) → bytes_at slot 8 file ≡ to_le_bytes w64 offset
named_by slot offset file is =
    let width : slot + 8 - slot ≡ 8 = omega arith in
    ap (λ (n : ℕ). take n (drop slot file)) (sym width) ∙ sym is

-- ---- what is held

pub ends_hold : (form : Form) (file : List ℕ) (end : ℕ) (base : List ℕ) (records : List (List ℕ)) → EndsAs form file end base records → Holds file base records
ends_hold Short file end base records ends = inl (inl ends.0, ends.1, ends.2)
ends_hold SlotsShort file end base records ends = inl (inr (ends.0, ends.1), ends.2, ends.3)
ends_hold Plain file end base records ends = journal_holds Plain file base records ends.0
ends_hold (Slots which offset) file end base records ends = journal_holds (Slots which offset) file base records ends.0

pub finds : (o : Option History) (w : Walked) → IsPiece o (bytes_of w) → IsWalked w → FindsRecords o w
finds None w is walked = tt
finds (Some h) w is walked =
    let records = walked.1.0 in
    let held : Holds (bytes_of w) (base_of w) records = ends_hold w.form (bytes_of w) w.end (base_of w) records walked.1.1 in
    let all : (base : List ℕ) (rs : List (List ℕ)) → Holds (bytes_of w) base rs → Holds h.content base rs =
    λ base rs holds. holds_all h.content base rs (subst (λ (l : List ℕ). Holds l base rs) is holds) in (
      all,
      λ base rs holds.
          let same = one_reading h.content (base_of w) base records rs (all (base_of w) records held) holds in
          subst (λ (b : List ℕ). Holds (bytes_of w) b rs) same.0 (subst (λ (r : List (List ℕ)). Holds (bytes_of w) (base_of w) r) same.1 held),
    )

-- ---- the records of a file

long_ahead : (form : Form) (file : List ℕ) (start gate : ℕ) → IsLongLed form file start gate → (base : List ℕ) (records : List (List ℕ)) → Holds file base records → AreAhead gate (drop gate file) records
long_ahead form file start gate led base records (inl short) = absurd (led.long short.0)
long_ahead form file start gate led base records (inr (not, (other, j))) =
    let lead = one_lead other form file base (take (gate - start) (drop start file)) j.place gate (omega (arith, j.within)) led.small j.leads led.leads in
    inr (record {
      gate = j.gate;
      rest = j.rest;
      split = ap (λ (n : ℕ). drop n file) (sym lead.1) ∙ j.split;
      closed = j.closed;
      within = omega (arith, j.within, lead.1);
    })

none_ahead_of : (file : List ℕ) (gate : ℕ) → IsShort file → gate ≡ length file → (base : List ℕ) (records : List (List ℕ)) → Holds file base records → AreAhead gate (drop gate file) records
none_ahead_of file gate short is base records (inl none) = inl (drop_all gate file (omega (arith, is)), none.2)
none_ahead_of file gate short is base records (inr long) = absurd (long.0 short)

pub ahead : (form : Form) (file : List ℕ) (start gate : ℕ) → IsLed file form start gate → (base : List ℕ) (records : List (List ℕ)) → Holds file base records → AreAhead gate (drop gate file) records
ahead Short file start gate led base records holds = none_ahead_of file gate (inl led.0) led.2 base records holds
ahead SlotsShort file start gate led base records holds = none_ahead_of file gate (inr (led.0, led.1)) led.3 base records holds
ahead Plain file start gate led base records holds = long_ahead Plain file start gate led base records holds
ahead (Slots which offset) file start gate led base records holds = long_ahead (Slots which offset) file start gate led base records holds

pub led_order : (form : Form) (file : List ℕ) (start gate : ℕ) → IsLed file form start gate → (start ≤ gate) × (gate ≤ length file)
led_order Short file start gate led = (omega (arith, led.1, led.2), omega (arith, led.2))
led_order SlotsShort file start gate led = (omega (arith, led.2, led.3), omega (arith, led.3))
led_order Plain file start gate led = (led.order, led.within)
led_order (Slots which offset) file start gate led = (led.order, led.within)

-- ---- the walk over the frames

-- what it has passed so far
pub record SoFar (gate : ℕ) (bytes : List ℕ) (at : ℕ) (rest : List ℕ) : Type 0 where
  pub records : List (List ℕ)
  pub split : bytes ≡ flat_map frame records ++ rest
  pub here : at ≡ gate + length (flat_map frame records)
  pub within : at < limit

pub one_more_frame : (gate : ℕ) (bytes : List ℕ) (at : ℕ) (rest body after b : List ℕ) (next : ℕ) → SoFar gate bytes at rest → rest ≡ 1 ∷ body
    → body ≡ to_le_bytes w32 (length b) ++ b ++ after → next ≡ at + 5 + length b → next < limit → SoFar gate bytes next after
one_more_frame gate bytes at rest body after b next so_far opens is_record there small =
    let longer : flat_map frame (so_far.records ++ b ∷ []) ≡ flat_map frame so_far.records ++ frame b = sym (flat_map_more frame [] so_far.records b) in
    record {
      records = so_far.records ++ b ∷ [];
      split = so_far.split ∙ ap (λ (l : List ℕ). flat_map frame so_far.records ++ l) (opens ∙ ap (λ (l : List ℕ). 1 ∷ l) is_record) ∙ sym (append_assoc (flat_map frame so_far.records) (frame b) after) ∙ ap (λ (l : List ℕ). l ++ after) (sym longer);
      here = omega (arith, so_far.here, there, ap length longer, length-append (flat_map frame so_far.records) (frame b), length-frame b);
      within = small;
    }

pub ended : (gate : ℕ) (bytes : List ℕ) (at : ℕ) (rest : List ℕ) → SoFar gate bytes at rest → 0 < length rest → ((body : List ℕ) → rest ≢ 1 ∷ body) → EndsBehind gate bytes (at + 1)
ended gate bytes at [] so_far some shut = absurd (omega (arith, some))
ended gate bytes at (g ∷ rest) so_far some shut = record {
  records = so_far.records;
  shut = g;
  rest = rest;
  split = so_far.split;
  closed = λ is. shut rest (ap (λ (k : ℕ). k ∷ rest) is);
  within = omega (arith, so_far.here, so_far.within);
  there = omega (arith, so_far.here);
}
