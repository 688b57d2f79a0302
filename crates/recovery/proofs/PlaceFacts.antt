-- Files by their forms: what one holds, where its first gate stands and where it ends, each in one way.
use Rattle.std.proofs.Common.{◌≡◌, inl, inr, ℕ, ◌+◌, ◌-◌, List, [], ◌∷◌, length, take, drop, get_or, refl, sym, ◌∙◌, subst, ap, arith}
use Rattle.journal_core.specs.Holds.{Selects, IsJournal, Holds}
use Rattle.journal_core.specs.Journal.{EndsAs}
use Rattle.journal_core.specs.Lead.{IsLed}
use Rattle.journal_core.specs.Walk.{placed, bytes_of, gate_of, IsWalked}
use Rattle.journal_core.specs.declared.form.Form.{Form}
use Rattle.journal_core.specs.declared.form.Form.TheVariants.{Short, Plain, SlotsShort, Slots}
use Rattle.journal_core.specs.declared.walked.Walked.{Walked}
use Rattle.journal_core.proofs.PartFacts.{journal_holds, other_header}
use Rattle.journal_core.proofs.OneReading.{one_lead, one_reading}
use Rattle.recovery.specs.StandsFor.{HoldsAt}

-- ---- what is held

pub at_holds : (file base : List ℕ) (records : List (List ℕ)) (gate : ℕ) → HoldsAt file base records gate → Holds file base records
at_holds file base records gate (inl short) = inl short
at_holds file base records gate (inr (form, j, there)) = journal_holds form file base records j

-- a file that ends somewhere holds what it ends with
pub ends_hold : (form : Form) (file : List ℕ) (end : ℕ) (base : List ℕ) (records : List (List ℕ)) → EndsAs form file end base records → Holds file base records
ends_hold Short file end base records ends = inl (inl ends.0, ends.1, ends.2)
ends_hold SlotsShort file end base records ends = inl (inr (ends.0, ends.1), ends.2, ends.3)
ends_hold Plain file end base records ends = journal_holds Plain file base records ends.0
ends_hold (Slots which offset) file end base records ends = journal_holds (Slots which offset) file base records ends.0

-- a journal of what its file holds
journal_of : (form : Form) (file b base : List ℕ) (rs records : List (List ℕ)) → IsJournal form file b rs → Holds file base records → IsJournal form file base records
journal_of form file b base rs records j holds =
    let one = one_reading file b base rs records (journal_holds form file b rs j) holds in
    subst (λ (c : List ℕ). IsJournal form file c records) one.0 (subst (λ (l : List (List ℕ)). IsJournal form file b l) one.1 j)

-- ---- the place of the first gate

-- in files of one form, one base has the first gate behind it at one place
same_place : (form : Form) (a b base : List ℕ) (rs ss : List (List ℕ)) (j : IsJournal form a base rs) (k : IsJournal form b base ss) → j.place ≡ k.place
same_place Short a b base rs ss j k = absurd j.leads
same_place SlotsShort a b base rs ss j k = absurd j.leads
same_place Plain a b base rs ss j k = j.leads.2 ∙ sym k.leads.2
same_place (Slots which offset) a b base rs ss j k = j.leads.place_is ∙ sym k.leads.place_is

-- without records there are none with places
none_placed : (records : List (List ℕ)) (p q : ℕ) → records ≡ [] → placed p records ≡ placed q records
none_placed [] p q none = refl
none_placed (r ∷ records) p q none = absurd (omega (arith, ap length none))

-- a file's records have their gates at one place each
pub one_gate : (file b c : List ℕ) (rs ss : List (List ℕ)) (p q : ℕ) → HoldsAt file b rs p → HoldsAt file c ss q → placed p rs ≡ placed q ss
one_gate file b c rs ss p q (inl x) at =
    let one = one_reading file b c rs ss (inl x) (at_holds file c ss q at) in
    none_placed rs p q x.2 ∙ ap (λ (l : List (List ℕ)). placed q l) one.1
one_gate file b c rs ss p q (inr x) (inl y) =
    let one = one_reading file b c rs ss (at_holds file b rs p (inr x)) (inl y) in
    ap (λ (l : List (List ℕ)). placed p l) one.1 ∙ none_placed ss p q y.2
one_gate file b c rs ss p q (inr (f, j, here)) (inr (g, k, there)) =
    let one = one_reading file b c rs ss (journal_holds f file b rs j) (journal_holds g file c ss k) in
    let lead = one_lead f g file b c j.place k.place (omega (arith, j.within)) (omega (arith, k.within)) j.leads k.leads in
    let gate : p ≡ q = here ∙ lead.1 ∙ sym there in
    ap (λ (n : ℕ). placed n rs) gate ∙ ap (λ (l : List (List ℕ)). placed q l) one.1

-- ---- what a walk found

led_at : (form : Form) (file : List ℕ) (start gate end : ℕ) (b base : List ℕ) (rs records : List (List ℕ)) → IsLed file form start gate → b ≡ take (gate - start) (drop start file)
    → EndsAs form file end b rs → Holds file base records → HoldsAt file base records gate
led_at Short file start gate end b base rs records led is ends holds =
    let one = one_reading file base b records rs holds (ends_hold Short file end b rs ends) in
    inl (inl ends.0, one.0 ∙ ends.1, one.1 ∙ ends.2)
led_at SlotsShort file start gate end b base rs records led is ends holds =
    let one = one_reading file base b records rs holds (ends_hold SlotsShort file end b rs ends) in
    inl (inr (ends.0, ends.1), one.0 ∙ ends.2, one.1 ∙ ends.3)
led_at Plain file start gate end b base rs records led is ends holds =
    let j = journal_of Plain file b base rs records ends.0 holds in
    inr (Plain, j, led.leads.2 ∙ sym j.leads.2)
led_at (Slots which offset) file start gate end b base rs records led is ends holds =
    let j = journal_of (Slots which offset) file b base rs records ends.0 holds in
    let k = ends.0 in
    let same : k.place ≡ gate = k.leads.place_is ∙ ap (λ (l : List ℕ). offset + 4 + length l) is ∙ sym led.leads.place_is in
    let lead = one_lead (Slots which offset) (Slots which offset) file b base k.place j.place (omega (arith, k.within)) (omega (arith, j.within)) k.leads j.leads in
    inr (Slots which offset, j, sym same ∙ lead.1)

-- what the bytes that a walk read hold begins at its gate
pub walked_at : (w : Walked) (base : List ℕ) (records : List (List ℕ)) → IsWalked w → Holds (bytes_of w) base records → HoldsAt (bytes_of w) base records (gate_of w)
walked_at w base records walked holds =
    led_at w.form (bytes_of w) w.base w.gate w.end (take (w.gate - w.base) (drop w.base (bytes_of w))) base walked.1.0 records walked.0 refl walked.1.1 holds

-- ---- two files of one form

-- what one of them holds with places, the other holds so, if it holds it at all
pub held_alike : (form : Form) (a b : List ℕ) (end last : ℕ) (c d : List ℕ) (rs ss : List (List ℕ)) (base : List ℕ) (records : List (List ℕ)) (gate : ℕ)
    → EndsAs form a end c rs → EndsAs form b last d ss → HoldsAt a base records gate → Holds b base records
    → (there : ℕ) × HoldsAt b base records there × (placed gate records ≡ placed there records)
held_alike Short a b end last c d rs ss base records gate ends others at holds =
    let one = one_reading b base d records ss holds (ends_hold Short b last d ss others) in
    (gate, inl (inl others.0, one.0 ∙ others.1, one.1 ∙ others.2), refl)
held_alike SlotsShort a b end last c d rs ss base records gate ends others at holds =
    let one = one_reading b base d records ss holds (ends_hold SlotsShort b last d ss others) in
    (gate, inl (inr (others.0, others.1), one.0 ∙ others.2, one.1 ∙ others.3), refl)
held_alike Plain a b end last c d rs ss base records gate ends others at holds =
    let j = journal_of Plain a c base rs records ends.0 (at_holds a base records gate at) in
    let k = journal_of Plain b d base ss records others.0 holds in
    (k.place, inr (Plain, k, refl), one_gate a base base records records gate j.place at (inr (Plain, j, refl)) ∙ ap (λ (n : ℕ). placed n records) (same_place Plain a b base records records j k))
held_alike (Slots which offset) a b end last c d rs ss base records gate ends others at holds =
    let form = Slots which offset in
    let j = journal_of form a c base rs records ends.0 (at_holds a base records gate at) in
    let k = journal_of form b d base ss records others.0 holds in
    (k.place, inr (form, k, refl), one_gate a base base records records gate j.place at (inr (form, j, refl)) ∙ ap (λ (n : ℕ). placed n records) (same_place form a b base records records j k))

-- ---- one form, one end

one_slot : (v w m n : ℕ) → v ≡ w → Selects v m → Selects w n → m ≡ n
one_slot v w m n is (inl a) (inl b) = a.1 ∙ sym b.1
one_slot v w m n is (inl a) (inr b) = absurd (b.0 (sym is ∙ a.0))
one_slot v w m n is (inr a) (inl b) = absurd (a.0 (is ∙ b.0))
one_slot v w m n is (inr a) (inr b) = a.1 ∙ sym b.1

-- a journal's file has one form
pub one_form : (f g : Form) (file b c : List ℕ) (rs ss : List (List ℕ)) → IsJournal f file b rs → IsJournal g file c ss → f ≡ g
one_form Short g file b c rs ss j k = absurd j.leads
one_form SlotsShort g file b c rs ss j k = absurd j.leads
one_form Plain Short file b c rs ss j k = absurd k.leads
one_form Plain SlotsShort file b c rs ss j k = absurd k.leads
one_form Plain Plain file b c rs ss j k = refl
one_form Plain (Slots n p) file b c rs ss j k = absurd (other_header file j.leads.0 k.leads.header)
one_form (Slots m o) Short file b c rs ss j k = absurd k.leads
one_form (Slots m o) SlotsShort file b c rs ss j k = absurd k.leads
one_form (Slots m o) Plain file b c rs ss j k = absurd (other_header file k.leads.0 j.leads.header)
one_form (Slots m o) (Slots n p) file b c rs ss j k =
    let x = j.leads in
    let y = k.leads in
    let lead = one_lead (Slots m o) (Slots n p) file b c j.place k.place (omega (arith, j.within)) (omega (arith, k.within)) x y in
    let selector : x.selector ≡ y.selector = ap (λ (l : List ℕ). get_or l 0 0) (sym x.selector_is ∙ y.selector_is) in
    let which : m ≡ n = one_slot x.selector y.selector m n selector x.selects y.selects in
    let offset : o ≡ p = omega (arith, x.place_is, y.place_is, lead.1, ap length lead.0) in
    ap (λ (i : ℕ). Slots i o) which ∙ ap (λ (i : ℕ). Slots n i) offset
