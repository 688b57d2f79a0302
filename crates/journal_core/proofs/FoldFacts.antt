-- What staging a base and switching to it leave.
use Rattle.std.proofs.Common.{◌≡◌, ◌⊎◌, inl, inr, ⊎_elim, ℕ, ◌+◌, ◌≤◌, ◌<◌, Bool, List, [], ◌∷◌, ◌++◌, length, take, drop, get_or, Option, Some, None, refl, sym, ◌∙◌, subst, ap, arith, append_assoc, length-append, take-append-drop, if◌then◌else◌}
use Rattle.std.proofs.lemmas.Bool.{cases_eq, cases_lt, le-leb, lt-leb}
use Rattle.std.proofs.lemmas.List.{take_at, drop_at, drop_more, length-take-le, length-drop}
use Rattle.std.proofs.Math.Seq.{take-append_seam}
use Rattle.std.specs.Int.{w32, w64, to_le_bytes}
use Rattle.std.specs.List.{flat_map}
use Rattle.outside.specs.Disk.{History, IsTorn, IsPlace, overwritten}
use Rattle.journal_core.specs.Holds.{limit, bytes_at, frame, slot_place, Selects, IsJournal, end_in, Holds}
use Rattle.journal_core.specs.Frame.{staged as staged_bytes}
use Rattle.journal_core.specs.Moments.{LeavesOnly, TornOf, Puts}
use Rattle.journal_core.specs.Form.{IsSlots, fold_place, other_slot}
use Rattle.journal_core.specs.Journal.{IsAtRest, IsReady, IsStaged, HoldsEither}
use Rattle.journal_core.specs.Calls.{IsStaging, IsStagedBeside, IsSwitching, IsSwitched}
use Rattle.journal_core.proofs.MomentFacts.{leaves_more, torn_done}
use Rattle.journal_core.proofs.PartFacts.{drop_sum, drop_behind, take_before, bytes_before, bytes_behind, slot_ends, slot_starts, journal_holds}
use Rattle.journal_core.proofs.FrameFacts.{length-staged}
use Rattle.journal_core.proofs.JournalFacts.{end_torn}
use Rattle.journal_core.specs.declared.form.Form.{Form}
use Rattle.journal_core.specs.declared.form.Form.TheVariants.{Short, Plain, SlotsShort, Slots}
use Rattle.journal_core.specs.declared.staged.Staged.{Staged}

-- a write of one byte leaves a byte, torn or not
pub torn_one : (place : ℕ) (file image : List ℕ) → place < length file → IsTorn place 1 file image → image ≡ overwritten place (get_or image place 0 ∷ []) file
torn_one place file image within torn =
    let long : place < length image = omega (arith, within, torn.no_shorter) in
    let now = get_or image place 0 in
    let behind : drop place image ≡ now ∷ drop (place + 1) file = drop_more image place 0 long ∙ ap (λ (l : List ℕ). now ∷ l) torn.behind in
    sym (take-append-drop place image) ∙ ap (λ (l : List ℕ). l ++ drop place image) torn.before ∙ ap (λ (l : List ℕ). take place file ++ l) behind
    ∙ sym (append_assoc (take place file) (now ∷ []) (drop (place + 1) file))

-- where a write stands
module _ (place : ℕ) (bytes old : List ℕ) (within : place ≤ length old) where
  pub over_before : take place (overwritten place bytes old) ≡ take place old
  over_before = (torn_done place bytes old within).before

  pub over_behind : drop (place + length bytes) (overwritten place bytes old) ≡ drop (place + length bytes) old
  over_behind = (torn_done place bytes old within).behind

  pub over_here : drop place (overwritten place bytes old) ≡ bytes ++ drop (place + length bytes) old
  over_here =
      let rest = drop (place + length bytes) old in
      ap (λ (l : List ℕ). drop place l) (append_assoc (take place old) bytes rest) ∙ drop_at (take place old) (bytes ++ rest) place (length-take-le place old within)

  pub over_bytes : bytes_at place (length bytes) (overwritten place bytes old) ≡ bytes
  over_bytes = ap (λ (l : List ℕ). take (length bytes) l) over_here ∙ take-append_seam bytes (drop (place + length bytes) old)

-- the same journal in another file, which ends at the same place
abbrev Goes : Form → List ℕ → List (List ℕ) → ℕ → List ℕ → Type 0
Goes form base records end image = (k : IsJournal form image base records) × (end ≡ end_in k)

module _ (which offset : ℕ) (file base : List ℕ) (records : List (List ℕ)) (end : ℕ) (j : IsJournal (Slots which offset) file base records) (is : end ≡ end_in j) where
  -- what a journal with slots rests on: the header, a selector of the same slot, that slot, and the bytes from its offset on
  moved : (image : List ℕ) (v : ℕ) → take 8 image ≡ take 8 file → bytes_at 8 1 image ≡ v ∷ [] → Selects v which
      → bytes_at (slot_place which) 8 image ≡ bytes_at (slot_place which) 8 file → drop offset image ≡ drop offset file → Goes (Slots which offset) base records end image
  moved image v header selector selects slot body =
      let far : offset ≤ j.place = omega (arith, j.leads.place_is) in (
        record {
          place = j.place;
          leads = record {
            selector = v;
            header = header ∙ j.leads.header;
            selector_is = selector;
            selects = selects;
            slot = slot ∙ j.leads.slot;
            low = j.leads.low;
            based = ap (λ (l : List ℕ). take (4 + length base) l) body ∙ j.leads.based;
            place_is = j.leads.place_is;
          };
          gate = j.gate;
          rest = j.rest;
          split = drop_behind j.place offset image file far body ∙ j.split;
          closed = j.closed;
          within = j.within;
        },
        is,
      )

  -- a write between the slots and the selected offset
  in_front : (size : ℕ) (image : List ℕ) → 25 + size ≤ offset → IsTorn 25 size file image → Goes (Slots which offset) base records end image
  in_front size image fits torn =
      moved image j.leads.selector (take_before 8 25 image file (omega arith) torn.before) (bytes_before 8 1 25 image file (omega arith) torn.before ∙ j.leads.selector_is) j.leads.selects
      (bytes_before (slot_place which) 8 25 image file (slot_ends j.leads.selector which j.leads.selects) torn.before)
      (drop_behind offset (25 + size) image file fits torn.behind)

  -- where a body goes
  places : (size : ℕ) → ((fold_place (Slots which offset) end size ≡ 25) × (25 + size ≤ offset)) ⊎ (fold_place (Slots which offset) end size ≡ end)
  places size = ⊎_elim
      (λ more. inr (ap (λ (b : Bool). if b then 25 else end) (lt-leb (25 + size) offset more)))
      (λ fits. inl (ap (λ (b : Bool). if b then 25 else end) (le-leb (25 + size) offset fits), fits))
      (cases_lt offset (25 + size))

  -- so a body that is written there disturbs nothing, torn or not
  pub body_torn : (place size : ℕ) (image : List ℕ) → place ≡ fold_place (Slots which offset) end size → IsTorn place size file image → Goes (Slots which offset) base records end image
  body_torn place size image there torn = ⊎_elim
      (λ front. in_front size image front.1 (subst (λ (p : ℕ). IsTorn p size file image) (there ∙ front.0) torn))
      (λ back. end_torn (Slots which offset) file base records image end size j is (subst (λ (p : ℕ). IsTorn p size file image) (there ∙ back) torn))
      (places size)

  pub file_long : 29 < length file
  file_long = omega (arith, j.leads.low, j.leads.place_is, ap length j.split, length-append (flat_map frame records) (j.gate ∷ j.rest), length-drop j.place file)

  pub place_within : (place size : ℕ) → place ≡ fold_place (Slots which offset) end size → (25 ≤ place) × (place ≤ length file)
  place_within place size there = ⊎_elim
      (λ front. (omega (arith, there, front.0), omega (arith, there, front.0, file_long)))
      (λ back. (omega (arith, there, back, is, j.leads.low, j.leads.place_is), omega (arith, there, back, is, ap length j.split, length-append (flat_map frame records) (j.gate ∷ j.rest), length-drop j.place file)))
      (places size)

  -- nor does a write of the other slot
  slot_torn : (image : List ℕ) → IsTorn (slot_place (other_slot (Slots which offset))) 8 file image → Goes (Slots which offset) base records end image
  slot_torn image torn = ⊎_elim (λ s. second s.1) (λ s. first s.1) j.leads.selects
    where
      second : which ≡ 1 → Goes (Slots which offset) base records end image
      second one =
          let at : IsTorn 9 8 file image = subst (λ (w : ℕ). IsTorn (slot_place (other_slot (Slots w offset))) 8 file image) one torn in
          moved image j.leads.selector (take_before 8 9 image file (omega arith) at.before) (bytes_before 8 1 9 image file (omega arith) at.before ∙ j.leads.selector_is) j.leads.selects
          (subst (λ (w : ℕ). bytes_at (slot_place w) 8 image ≡ bytes_at (slot_place w) 8 file) (sym one) (bytes_behind 17 8 17 image file (omega arith) at.behind))
          (drop_behind offset 17 image file (omega (arith, j.leads.low)) at.behind)

      first : which ≡ 0 → Goes (Slots which offset) base records end image
      first zero_is =
          let at : IsTorn 17 8 file image = subst (λ (w : ℕ). IsTorn (slot_place (other_slot (Slots w offset))) 8 file image) zero_is torn in
          moved image j.leads.selector (take_before 8 17 image file (omega arith) at.before) (bytes_before 8 1 17 image file (omega arith) at.before ∙ j.leads.selector_is) j.leads.selects
          (subst (λ (w : ℕ). bytes_at (slot_place w) 8 image ≡ bytes_at (slot_place w) 8 file) (sym zero_is) (bytes_before 9 8 17 image file (omega arith) at.before))
          (drop_behind offset 25 image file (omega (arith, j.leads.low)) at.behind)

  -- with a selector of the same slot, all is as it was
  pub reselected : (v : ℕ) → Selects v which → Goes (Slots which offset) base records end (overwritten 8 (v ∷ []) file)
  reselected v selects =
      let long : 8 ≤ length file = omega (arith, file_long) in
      let new = overwritten 8 (v ∷ []) file in
      let behind : drop 9 new ≡ drop 9 file = over_behind 8 (v ∷ []) file long in
      moved new v (over_before 8 (v ∷ []) file long) (over_bytes 8 (v ∷ []) file long) selects
      (bytes_behind (slot_place which) 8 9 new file (slot_starts v which selects) behind)
      (drop_behind offset 9 new file (omega (arith, j.leads.low)) behind)

  -- the slot that is not selected stands among the first 25 bytes, behind the selector
  other_place : (9 ≤ slot_place (other_slot (Slots which offset))) × (slot_place (other_slot (Slots which offset)) + 8 ≤ 25)
  other_place = ⊎_elim
      (λ s. subst (λ (w : ℕ). (9 ≤ slot_place (other_slot (Slots w offset))) × (slot_place (other_slot (Slots w offset)) + 8 ≤ 25)) (sym s.1) (omega arith, omega arith))
      (λ s. subst (λ (w : ℕ). (9 ≤ slot_place (other_slot (Slots w offset))) × (slot_place (other_slot (Slots w offset)) + 8 ≤ 25)) (sym s.1) (omega arith, omega arith))
      j.leads.selects

  -- any selector selects this slot or the other
  one_of : (v : ℕ) → Selects v which ⊎ Selects v (other_slot (Slots which offset))
  one_of v = ⊎_elim
      (λ s. ⊎_elim
      (λ one. inl (inl (one, s.1)))
      (λ more. inr (inr (more, ap (λ (w : ℕ). other_slot (Slots w offset)) s.1)))
      (cases_eq v 1))
      (λ s. ⊎_elim
      (λ one. inr (inl (one, ap (λ (w : ℕ). other_slot (Slots w offset)) s.1)))
      (λ more. inl (inr (more, s.1)))
      (cases_eq v 1))
      j.leads.selects

  -- the other slot's number selects it
  pub other_selects : Selects (other_slot (Slots which offset)) (other_slot (Slots which offset))
  other_selects = ⊎_elim
      (λ s. subst (λ (w : ℕ). Selects (other_slot (Slots w offset)) (other_slot (Slots w offset))) (sym s.1) (inr (omega arith, refl)))
      (λ s. subst (λ (w : ℕ). Selects (other_slot (Slots w offset)) (other_slot (Slots w offset))) (sym s.1) (inl (refl, refl)))
      j.leads.selects

  -- A body is written where it goes.
  module _ (bytes : List ℕ) (place : ℕ) (there : place ≡ fold_place (Slots which offset) end (5 + length bytes)) where
    body_within : (25 ≤ place) × (place ≤ length file)
    body_within = place_within place (5 + length bytes) there

    abbrev after_body : List ℕ
    after_body = overwritten place (staged_bytes bytes) file

    after_body_goes : Goes (Slots which offset) base records end after_body
    after_body_goes =
        body_torn place (5 + length bytes) after_body there
        (subst (λ (n : ℕ). IsTorn place n file after_body) (length-staged bytes) (torn_done place (staged_bytes bytes) file body_within.1))

-- after the first write
module _ (which offset : ℕ) (file base : List ℕ) (records : List (List ℕ)) (end : ℕ) (j : IsJournal (Slots which offset) file base records) (is : end ≡ end_in j)
    (bytes : List ℕ) (place : ℕ) (there : place ≡ fold_place (Slots which offset) end (5 + length bytes)) where
  abbrev other : ℕ
  other = other_slot (Slots which offset)

  abbrev slot : ℕ
  slot = slot_place other

  abbrev one : List ℕ
  one = overwritten place (staged_bytes bytes) file

  goes : Goes (Slots which offset) base records end one
  goes = after_body_goes which offset file base records end j is bytes place there

  one_long : 29 < length one
  one_long = file_long which offset one base records end goes.0 goes.1

  slots : (9 ≤ slot) × (slot + 8 ≤ 25)
  slots = other_place which offset file base records end j is

  abbrev two : List ℕ
  two = overwritten slot (to_le_bytes w64 place) one

  two_goes : Goes (Slots which offset) base records end two
  two_goes = slot_torn which offset one base records end goes.0 goes.1 two (torn_done slot (to_le_bytes w64 place) one (omega (arith, slots, one_long)))

  -- with the other slot selected, the file is the new journal
  switched_to : place + (5 + length bytes) ≤ limit → (v : ℕ) → Selects v other → (k : IsJournal (Slots other place) (overwritten 8 (v ∷ []) two) bytes []) × (place + (5 + length bytes) ≡ end_in k)
  switched_to fits v selects =
      let two_long : 29 < length two = file_long which offset two base records end two_goes.0 two_goes.1 in
      let within : (25 ≤ place) × (place ≤ length file) = place_within which offset file base records end j is place (5 + length bytes) there in
      let three = overwritten 8 (v ∷ []) two in
      let within_two : 8 ≤ length two = omega (arith, two_long) in
      let within_one : slot ≤ length one = omega (arith, slots, one_long) in
      let behind : drop 9 three ≡ drop 9 two = over_behind 8 (v ∷ []) two within_two in
      let written = to_le_bytes w32 (length bytes) ++ bytes in
      let more = drop (place + length (staged_bytes bytes)) file in
      let size : length written ≡ 4 + length bytes = omega (arith, length-append (to_le_bytes w32 (length bytes)) bytes) in
      let body : drop place three ≡ written ++ 0 ∷ more =
      drop_behind place 9 three two (omega (arith, within.0)) behind
      ∙ drop_behind place (slot + 8) two one (omega (arith, within.0, slots)) (over_behind slot (to_le_bytes w64 place) one within_one)
      ∙ over_here place (staged_bytes bytes) file within.1
      ∙ append_assoc written (0 ∷ []) more in (
        record {
          place = place + (4 + length bytes);
          leads = record {
            selector = v;
            header = over_before 8 (v ∷ []) two within_two ∙ two_goes.0.leads.header;
            selector_is = over_bytes 8 (v ∷ []) two within_two;
            selects = selects;
            slot = bytes_behind slot 8 9 three two (omega (arith, slots)) behind ∙ over_bytes slot (to_le_bytes w64 place) one within_one;
            low = within.0;
            based = ap (λ (l : List ℕ). take (4 + length bytes) l) body ∙ take_at written (0 ∷ more) (4 + length bytes) size;
            place_is = omega arith;
          };
          gate = 0;
          rest = more;
          split = drop_sum place (4 + length bytes) three ∙ ap (λ (l : List ℕ). drop (4 + length bytes) l) body ∙ drop_at written (0 ∷ more) (4 + length bytes) size;
          closed = omega arith;
          within = omega (arith, fits);
        },
        omega arith,
      )

-- ---- over a disk

-- the first write of a staging, done or not
pub first_staging : (form : Form) (o mid : Option History) (end place count : ℕ) → IsSlots form → place ≡ fold_place form end count → LeavesOnly o mid (TornOf o place count) → IsStaging o mid form end
first_staging Short o mid end place count form there leaves = absurd form
first_staging Plain o mid end place count form there leaves = absurd form
first_staging SlotsShort o mid end place count form there leaves = absurd form
first_staging (Slots which offset) None mid end place count form there leaves = λ base records rest. leaves
first_staging (Slots which offset) (Some h) mid end place count form there leaves = λ base records rest.
    leaves_more (Some h) mid (IsTorn place count h.content) (λ image. Holds image base records)
    (λ image torn. journal_holds (Slots which offset) image base records (body_torn which offset h.content base records end rest.1.0 rest.1.1 place count image there torn).0) leaves

-- and the second behind it
pub second_staging : (form : Form) (o mid after : Option History) (end place slot_at : ℕ) (bytes : List ℕ) → IsSlots form → place ≡ fold_place form end (5 + length bytes) → slot_at ≡ slot_place (other_slot form)
    → Puts o place (staged_bytes bytes) mid → LeavesOnly mid after (TornOf mid slot_at 8) → (base : List ℕ) (records : List (List ℕ)) → IsAtRest o form end base records → LeavesOnly mid after (λ image. Holds image base records)
second_staging Short o mid after end place slot_at bytes form there slot_is puts leaves base records rest = absurd form
second_staging Plain o mid after end place slot_at bytes form there slot_is puts leaves base records rest = absurd form
second_staging SlotsShort o mid after end place slot_at bytes form there slot_is puts leaves base records rest = absurd form
second_staging (Slots which offset) None mid after end place slot_at bytes form there slot_is puts leaves base records rest =
    subst (λ (m : Option History). LeavesOnly m after (λ image. Holds image base records)) (sym puts) (subst (λ (m : Option History). LeavesOnly m after (TornOf m slot_at 8)) puts leaves)
second_staging (Slots which offset) (Some h) mid after end place slot_at bytes form there slot_is puts leaves base records rest =
    let made = goes which offset h.content base records end rest.1.0 rest.1.1 bytes place there in
    let now : Goes (Slots which offset) base records end puts.0.content = subst (Goes (Slots which offset) base records end) (sym puts.2) made in
    subst (λ (m : Option History). LeavesOnly m after (λ image. Holds image base records)) (sym puts.1)
    (leaves_more (Some puts.0) after (IsTorn slot_at 8 puts.0.content) (λ image. Holds image base records)
    (λ image torn. journal_holds (Slots which offset) image base records
    (slot_torn which offset puts.0.content base records end now.0 now.1 image (subst (λ (p : ℕ). IsTorn p 8 puts.0.content image) slot_is torn)).0)
    (subst (λ (m : Option History). LeavesOnly m after (TornOf m slot_at 8)) puts.1 leaves))

-- both are done
module _ (which offset : ℕ) (h mid after : History) (end place slot_at : ℕ) (bytes : List ℕ) (there : place ≡ fold_place (Slots which offset) end (5 + length bytes))
    (slot_is : slot_at ≡ slot_place (other_slot (Slots which offset)))
    (wrote : mid.content ≡ overwritten place (staged_bytes bytes) h.content) (noted : after.content ≡ overwritten slot_at (to_le_bytes w64 place) mid.content)
    (base : List ℕ) (records : List (List ℕ)) (j : IsJournal (Slots which offset) h.content base records) (is : end ≡ end_in j) where
  content_is : after.content ≡ two which offset h.content base records end j is bytes place there
  content_is = noted ∙ ap (λ (l : List ℕ). overwritten slot_at (to_le_bytes w64 place) l) wrote
      ∙ ap (λ (p : ℕ). overwritten p (to_le_bytes w64 place) (overwritten place (staged_bytes bytes) h.content)) slot_is

  beside : Goes (Slots which offset) base records end after.content
  beside = subst (Goes (Slots which offset) base records end) (sym content_is) (two_goes which offset h.content base records end j is bytes place there)

  new_base : place + (5 + length bytes) ≤ limit → (v : ℕ) → Selects v (other_slot (Slots which offset))
      → (k : IsJournal (Slots (other_slot (Slots which offset)) place) (overwritten 8 (v ∷ []) after.content) bytes []) × (place + (5 + length bytes) ≡ end_in k)
  new_base fits v selects =
      subst (λ (f : List ℕ). (k : IsJournal (Slots (other_slot (Slots which offset)) place) (overwritten 8 (v ∷ []) f) bytes []) × (place + (5 + length bytes) ≡ end_in k)) (sym content_is)
      (switched_to which offset h.content base records end j is bytes place there fits v selects)

pub staged_beside : (form : Form) (o mid after : Option History) (end place slot_at : ℕ) (bytes : List ℕ) → IsSlots form → place ≡ fold_place form end (5 + length bytes) → slot_at ≡ slot_place (other_slot form)
    → Puts o place (staged_bytes bytes) mid → Puts mid slot_at (to_le_bytes w64 place) after → IsStagedBeside o after form end
staged_beside Short o mid after end place slot_at bytes form there slot_is first second = absurd form
staged_beside Plain o mid after end place slot_at bytes form there slot_is first second = absurd form
staged_beside SlotsShort o mid after end place slot_at bytes form there slot_is first second = absurd form
staged_beside (Slots which offset) None mid after end place slot_at bytes form there slot_is first second = λ base records rest.
    let none : after ≡ None = subst (λ (m : Option History). Puts m slot_at (to_le_bytes w64 place) after) first second in
    subst (λ (a : Option History). IsAtRest a (Slots which offset) end base records) (sym none) tt
staged_beside (Slots which offset) (Some h) mid after end place slot_at bytes form there slot_is first second = λ base records rest.
    let done = subst (λ (m : Option History). Puts m slot_at (to_le_bytes w64 place) after) first.1 second in
    subst (λ (a : Option History). IsAtRest a (Slots which offset) end base records) (sym done.1)
    (done.3, beside which offset h first.0 done.0 end place slot_at bytes there slot_is first.2 done.2 base records rest.1.0 rest.1.1)

pub staged_new : (form : Form) (o mid after : Option History) (end place slot_at : ℕ) (bytes : List ℕ) (chosen next : ℕ) → IsSlots form → place ≡ fold_place form end (5 + length bytes) → slot_at ≡ slot_place (other_slot form)
    → place + (5 + length bytes) ≤ limit → chosen ≡ other_slot form → next ≡ place + (5 + length bytes)
    → IsReady o form end → Puts o place (staged_bytes bytes) mid → Puts mid slot_at (to_le_bytes w64 place) after → IsStaged after (record { selected = chosen; offset = place; end = next }) bytes
staged_new Short o mid after end place slot_at bytes chosen next form there slot_is fits chosen_is next_is ready first second = absurd form
staged_new Plain o mid after end place slot_at bytes chosen next form there slot_is fits chosen_is next_is ready first second = absurd form
staged_new SlotsShort o mid after end place slot_at bytes chosen next form there slot_is fits chosen_is next_is ready first second = absurd form
staged_new (Slots which offset) None mid after end place slot_at bytes chosen next form there slot_is fits chosen_is next_is ready first second =
    let none : after ≡ None = subst (λ (m : Option History). Puts m slot_at (to_le_bytes w64 place) after) first second in
    subst (λ (a : Option History). IsStaged a (record { selected = chosen; offset = place; end = next }) bytes) (sym none) tt
staged_new (Slots which offset) (Some h) mid after end place slot_at bytes chosen next form there slot_is fits chosen_is next_is ready first second =
    let done = subst (λ (m : Option History). Puts m slot_at (to_le_bytes w64 place) after) first.1 second in
    subst (λ (a : Option History). IsStaged a (record { selected = chosen; offset = place; end = next }) bytes) (sym done.1)
    (subst (λ (n : ℕ). IsStaged (Some done.0) (record { selected = n; offset = place; end = next }) bytes) (sym chosen_is)
    (subst (λ (n : ℕ). IsStaged (Some done.0) (record { selected = other_slot (Slots which offset); offset = place; end = n }) bytes) (sym next_is)
    (new_base which offset h first.0 done.0 end place slot_at bytes there slot_is first.2 done.2 ready.0 ready.1 ready.2.1.0 ready.2.1.1 fits)))

pub beside_ready : (o after : Option History) (form : Form) (end : ℕ) → IsReady o form end → IsStagedBeside o after form end → IsReady after form end
beside_ready None None form end ready stays = tt
beside_ready None (Some k) form end ready stays = ([], [], stays [] [] tt)
beside_ready (Some h) None form end ready stays = tt
beside_ready (Some h) (Some k) form end ready stays = (ready.0, ready.1, stays ready.0 ready.1 ready.2)

-- a switch, done or not
pub switching : (form : Form) (o after : Option History) (end : ℕ) (staged : Staged) → IsSlots form → staged.selected ≡ other_slot form → LeavesOnly o after (TornOf o 8 1) → IsSwitching o after form end staged
switching Short o after end staged form is leaves = absurd form
switching Plain o after end staged form is leaves = absurd form
switching SlotsShort o after end staged form is leaves = absurd form
switching (Slots which offset) None after end staged form is leaves = λ base records next rest there. leaves
switching (Slots which offset) (Some h) after end staged form is leaves = λ base records next rest there.
    leaves_more (Some h) after (IsTorn 8 1 h.content) (HoldsEither base records next)
    (λ image torn.
    let v = get_or image 8 0 in
    let long = file_long which offset h.content base records end rest.1.0 rest.1.1 in
    let same : image ≡ overwritten 8 (v ∷ []) h.content = torn_one 8 h.content image (omega (arith, long)) torn in
    subst (HoldsEither base records next) (sym same)
    (⊎_elim
    (λ here. inl (journal_holds (Slots which offset) (overwritten 8 (v ∷ []) h.content) base records (reselected which offset h.content base records end rest.1.0 rest.1.1 v here).0))
    (λ over. inr (journal_holds (Slots staged.selected staged.offset) (overwritten 8 (v ∷ []) h.content) next [] (there v (subst (Selects v) (sym is) over)).0))
    (one_of which offset h.content base records end rest.1.0 rest.1.1 v)))
    leaves

pub switched : (form : Form) (o after : Option History) (end : ℕ) (staged : Staged) → IsSlots form → staged.selected ≡ other_slot form → IsReady o form end → Puts o 8 (staged.selected ∷ []) after
    → IsSwitched o after staged (Slots staged.selected staged.offset) staged.end
switched Short o after end staged form is ready puts = absurd form
switched Plain o after end staged form is ready puts = absurd form
switched SlotsShort o after end staged form is ready puts = absurd form
switched (Slots which offset) None after end staged form is ready puts = λ next there.
    subst (λ (a : Option History). IsAtRest a (Slots staged.selected staged.offset) staged.end next []) (sym puts) tt
switched (Slots which offset) (Some h) after end staged form is ready puts = λ next there.
    let selects : Selects staged.selected staged.selected = subst (λ (s : ℕ). Selects s s) (sym is) (other_selects which offset h.content ready.0 ready.1 end ready.2.1.0 ready.2.1.1) in
    let at = there staged.selected selects in
    subst (λ (a : Option History). IsAtRest a (Slots staged.selected staged.offset) staged.end next []) (sym puts.1)
    (puts.3, subst (λ (f : List ℕ). (k : IsJournal (Slots staged.selected staged.offset) f next []) × (staged.end ≡ end_in k)) (sym puts.2) at)

-- the places of these writes
pub body_place_is : (form : Form) (o : Option History) (end place size : ℕ) → IsSlots form → IsReady o form end → place ≡ fold_place form end size → IsPlace o place
body_place_is form None end place size form_is ready there = tt
body_place_is Short (Some h) end place size form_is ready there = absurd form_is
body_place_is Plain (Some h) end place size form_is ready there = absurd form_is
body_place_is SlotsShort (Some h) end place size form_is ready there = absurd form_is
body_place_is (Slots which offset) (Some h) end place size form_is ready there =
    (place_within which offset h.content ready.0 ready.1 end ready.2.1.0 ready.2.1.1 place size there).1

pub slot_place_is : (form : Form) (o mid : Option History) (end place slot_at : ℕ) (bytes : List ℕ) → IsSlots form → IsReady o form end → place ≡ fold_place form end (5 + length bytes) → slot_at ≡ slot_place (other_slot form)
    → Puts o place (staged_bytes bytes) mid → IsPlace mid slot_at
slot_place_is Short o mid end place slot_at bytes form ready there slot_is puts = absurd form
slot_place_is Plain o mid end place slot_at bytes form ready there slot_is puts = absurd form
slot_place_is SlotsShort o mid end place slot_at bytes form ready there slot_is puts = absurd form
slot_place_is (Slots which offset) None mid end place slot_at bytes form ready there slot_is puts = subst (λ (m : Option History). IsPlace m slot_at) (sym puts) tt
slot_place_is (Slots which offset) (Some h) mid end place slot_at bytes form ready there slot_is puts =
    let j = ready.2.1 in
    let long = one_long which offset h.content ready.0 ready.1 end j.0 j.1 bytes place there in
    let slot_low = slots which offset h.content ready.0 ready.1 end j.0 j.1 bytes place there in
    subst (λ (m : Option History). IsPlace m slot_at) (sym puts.1) (omega (arith, slot_is, long, slot_low, ap length puts.2))

pub to_front : (form : Form) (which offset end size : ℕ) → form ≡ Slots which offset → 25 + size ≤ offset → 25 ≡ fold_place form end size
to_front form which offset end size is fits =
    subst (λ (f : Form). 25 ≡ fold_place f end size) (sym is) (sym (ap (λ (b : Bool). if b then 25 else end) (le-leb (25 + size) offset fits)))

pub switched_ready : (o after : Option History) (staged : Staged) (form : Form) (end : ℕ) → ((base : List ℕ) × IsStaged o staged base) → IsSwitched o after staged form end → IsReady after form end
switched_ready o None staged form end there done = tt
switched_ready o (Some k) staged form end there done = (there.0, [], done there.0 there.1)
