-- The bytes of a file's records, without what stands before and behind them.
use Rattle.std.proofs.Common.{◌≡◌, inl, inr, ℕ, ◌+◌, ◌-◌, List, [], ◌∷◌, ◌++◌, length, take, drop, min, sym, ◌∙◌, ap, arith, append_assoc, length-append}
use Rattle.std.proofs.lemmas.List.{take_at, length-drop}
use Rattle.std.proofs.Math.Seq.{take-nil}
use Rattle.std.specs.List.{flat_map}
use Rattle.journal_core.specs.Holds.{frame, IsJournal, end_in, Holds}
use Rattle.journal_core.specs.Journal.{EndsAs}
use Rattle.journal_core.specs.Lead.{IsLongLed, IsLed}
use Rattle.journal_core.specs.Records.{GoesOn, AreAhead}
use Rattle.journal_core.specs.Walk.{IsWalked, bytes_of, base_of, records_of}
use Rattle.journal_core.specs.declared.form.Form.{Form}
use Rattle.journal_core.specs.declared.form.Form.TheVariants.{Short, Plain, SlotsShort, Slots}
use Rattle.journal_core.specs.declared.walked.Walked.{Walked}
use Rattle.journal_core.proofs.PartFacts.{journal_holds}
use Rattle.journal_core.proofs.OneReading.{one_lead, one_reading}
use Rattle.journal_core.proofs.LeadFacts.{ahead}

abbrev frames : List (List ℕ) → List ℕ
frames records = flat_map frame records

-- ---- where the records end

-- the records of a journal begin at the first gate that was read
same_gate : (form : Form) (file base : List ℕ) (records : List (List ℕ)) (start gate : ℕ) → IsLongLed form file start gate → (j : IsJournal form file base records) → j.place ≡ gate
same_gate form file base records start gate led j =
    (one_lead form form file base (take (gate - start) (drop start file)) j.place gate (omega (arith, j.within)) led.small j.leads led.leads).1

-- and end just before the file's end
long_end : (form : Form) (file base : List ℕ) (records : List (List ℕ)) (start gate end : ℕ) → IsLongLed form file start gate → (j : IsJournal form file base records) → end ≡ end_in j
    → (other : List ℕ) (all : List (List ℕ)) → Holds file other all → end ≡ gate + length (frames all) + 1
long_end form file base records start gate end led j ends other all holds =
    let one = one_reading file base other records all (journal_holds form file base records j) holds in
    omega (arith, ends, same_gate form file base records start gate led j, ap (λ (l : List (List ℕ)). length (frames l)) one.1)

-- a file that is too short has no records
short_none : (file : List ℕ) (gate : ℕ) (all : List (List ℕ)) → gate ≡ length file → GoesOn gate (drop gate file) all → ⊥
short_none file gate all is on = omega (arith, is, length-drop gate file, ap length on.split, length-append (frames all) (on.gate ∷ on.rest))

ends_there : (form : Form) (file base : List ℕ) (records : List (List ℕ)) (start gate end : ℕ) → IsLed file form start gate → EndsAs form file end base records
    → (other : List ℕ) (all : List (List ℕ)) → Holds file other all → GoesOn gate (drop gate file) all → end ≡ gate + length (frames all) + 1
ends_there Short file base records start gate end led ends other all holds on = absurd (short_none file gate all led.2 on)
ends_there SlotsShort file base records start gate end led ends other all holds on = absurd (short_none file gate all led.3 on)
ends_there Plain file base records start gate end led ends other all holds on = long_end Plain file base records start gate end led ends.0 ends.1 other all holds
ends_there (Slots which offset) file base records start gate end led ends other all holds on = long_end (Slots which offset) file base records start gate end led ends.0 ends.1 other all holds

-- ---- the bytes up to there

-- of the bytes from the first gate on, those that go on to the closed gate have the same records ahead
cut : (gate n : ℕ) (bytes : List ℕ) (records : List (List ℕ)) → AreAhead gate bytes records → (GoesOn gate bytes records → n ≡ length (frames records) + 1) → AreAhead gate (take n bytes) records
cut gate n bytes records (inl none) size = inl (ap (λ (l : List ℕ). take n l) none.0 ∙ take-nil n, none.1)
cut gate n bytes records (inr on) size =
    let kept : List ℕ = frames records ++ on.gate ∷ [] in
    let whole : bytes ≡ kept ++ on.rest = on.split ∙ sym (append_assoc (frames records) (on.gate ∷ []) on.rest) in
    let long : length kept ≡ n = omega (arith, size on, length-append (frames records) (on.gate ∷ [])) in
    inr (record {
      gate = on.gate;
      rest = [];
      split = ap (λ (l : List ℕ). take n l) whole ∙ take_at kept on.rest n long;
      closed = on.closed;
      within = on.within;
    })

-- so they have the records ahead that the file holds
pub records_ahead : (w : Walked) → IsWalked w → (base : List ℕ) (records : List (List ℕ)) → Holds (bytes_of w) base records → AreAhead w.gate (records_of w) records
records_ahead w walked base records holds =
    let bytes = drop w.gate w.bytes.items in
    let n = min (length w.bytes.items) w.end - w.gate in
    let size : GoesOn w.gate bytes records → n ≡ length (frames records) + 1 =
    λ on.
    let there = ends_there w.form (bytes_of w) (base_of w) walked.1.0 w.base w.gate w.end walked.0 walked.1.1 base records holds on in
    omega (arith, there, length-drop w.gate w.bytes.items, ap length on.split, length-append (frames records) (on.gate ∷ on.rest)) in
    cut w.gate n bytes records (ahead w.form (bytes_of w) w.base w.gate walked.0 base records holds) size
