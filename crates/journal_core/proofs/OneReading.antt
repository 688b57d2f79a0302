-- A file has one reading: it holds one base and one list of records, or it is damaged at one place.
use Rattle.std.proofs.Common.{◌≡◌, ◌≢◌, ◌⊎◌, inl, inr, ℕ, ◌+◌, ◌≤◌, ◌<◌, ◌^◌, List, [], ◌∷◌, ◌++◌, length, take, drop, get_or, refl, subst, sym, ◌∙◌, ap, arith, append_assoc, length-append}
use Rattle.std.proofs.Math.Seq.{take-append_seam, drop-append_seam}
use Rattle.std.proofs.lemmas.Nat.{from_le_bytes-to_le_bytes_4, from_le_bytes-to_le_bytes_8}
use Rattle.std.specs.Int.{w32, w64, to_le_bytes, from_le_bytes}
use Rattle.std.specs.List.{flat_map}
use Rattle.journal_core.specs.Holds.{plain_header, slots_header, limit, bytes_at, frame, slot_place, Selects, HasSlots, LeadsTo, Holds}
use Rattle.journal_core.specs.Records.{AreAhead, IsNext}
use Rattle.journal_core.specs.Walk.{NamesNoRecord, NamesOffset, IsDamaged, IsFault, IsOnlyFault}
use Rattle.journal_core.specs.declared.form.Form.{Form}
use Rattle.journal_core.specs.declared.form.Form.TheVariants.{Short, Plain, SlotsShort, Slots}
use Rattle.journal_core.specs.declared.fault.JournalFault.{JournalFault}
use Rattle.journal_core.specs.declared.fault.JournalFault.TheVariants.{Damaged, DiskFault, Memory}
use Rattle.journal_core.proofs.PartFacts.{length-frame, take_front, other_header}

pub same_size : (m n : ℕ) → m < 2 ^ 32 → n < 2 ^ 32 → to_le_bytes w32 m ≡ to_le_bytes w32 n → m ≡ n
same_size m n small small' is = sym (from_le_bytes-to_le_bytes_4 m small) ∙ ap (from_le_bytes w32) is ∙ from_le_bytes-to_le_bytes_4 n small'

same_offset : (m n : ℕ) → m < 2 ^ 64 → n < 2 ^ 64 → to_le_bytes w64 m ≡ to_le_bytes w64 n → m ≡ n
same_offset m n small small' is = sym (from_le_bytes-to_le_bytes_8 m small) ∙ ap (from_le_bytes w64) is ∙ from_le_bytes-to_le_bytes_8 n small'

abbrev pub frames : List (List ℕ) → List ℕ
frames records = flat_map frame records

frames_size : (bytes : List ℕ) (records : List (List ℕ)) → length (frames (bytes ∷ records)) ≡ 5 + length bytes + length (frames records)
frames_size bytes records = omega (arith, length-append (frame bytes) (frames records), length-frame bytes)

-- Two frames with something behind them are the same bytes.
module _ (a b x y : List ℕ) (small : length a < 2 ^ 32) (small' : length b < 2 ^ 32) (is : frame a ++ x ≡ frame b ++ y) where
  size : length a ≡ length b
  size = same_size (length a) (length b) small small' (ap (λ (l : List ℕ). take 4 (drop 1 l)) is)

  behind : a ++ x ≡ b ++ y
  behind = ap (λ (l : List ℕ). drop 5 l) is

  same_bytes : a ≡ b
  same_bytes = sym (take-append_seam a x) ∙ ap (λ (l : List ℕ). take (length a) l) behind ∙ ap (λ (n : ℕ). take n (b ++ y)) size ∙ take-append_seam b y

  same_rest : x ≡ y
  same_rest = sym (drop-append_seam a x) ∙ ap (λ (l : List ℕ). drop (length a) l) behind ∙ ap (λ (n : ℕ). drop n (b ++ y)) size ∙ drop-append_seam b y

-- behind the shorter list stands one more frame of the longer one
record GoesOn (short long : List (List ℕ)) (tail : List ℕ) : Type 0 where
  pub bytes : List ℕ
  pub more : List ℕ
  pub split : tail ≡ frame bytes ++ more
  pub within : length (frames short) + (5 + length bytes) ≤ length (frames long)

-- Two lists of frames with something behind them are the same bytes: they are the same, or one goes on.
abbrev Compared : List (List ℕ) → List (List ℕ) → List ℕ → List ℕ → Type 0
Compared rs ss t u = ((rs ≡ ss) × (t ≡ u)) ⊎ (GoesOn rs ss t ⊎ GoesOn ss rs u)

longer : (a b : List ℕ) (rs ss : List (List ℕ)) (t : List ℕ) → a ≡ b → GoesOn rs ss t → GoesOn (a ∷ rs) (b ∷ ss) t
longer a b rs ss t same on =
    record { bytes = on.bytes; more = on.more; split = on.split; within = omega (arith, on.within, frames_size a rs, frames_size b ss, ap length same) }

one_more : (a b : List ℕ) (rs ss : List (List ℕ)) (t u : List ℕ) → a ≡ b → Compared rs ss t u → Compared (a ∷ rs) (b ∷ ss) t u
one_more a b rs ss t u same (inl is) = inl (ap (λ (x : List ℕ). x ∷ rs) same ∙ ap (λ (l : List (List ℕ)). b ∷ l) is.0, is.1)
one_more a b rs ss t u same (inr (inl on)) = inr (inl (longer a b rs ss t same on))
one_more a b rs ss t u same (inr (inr on)) = inr (inr (longer b a ss rs u (sym same) on))

compared : (rs ss : List (List ℕ)) (t u : List ℕ) → length (frames rs) < limit → length (frames ss) < limit → frames rs ++ t ≡ frames ss ++ u → Compared rs ss t u
compared [] [] t u small small' is = inl (refl, is)
compared [] (b ∷ ss) t u small small' is =
    inr (inl (record { bytes = b; more = frames ss ++ u; split = is ∙ append_assoc (frame b) (frames ss) u; within = omega (arith, frames_size b ss) }))
compared (a ∷ rs) [] t u small small' is =
    inr (inr (record { bytes = a; more = frames rs ++ t; split = sym is ∙ append_assoc (frame a) (frames rs) t; within = omega (arith, frames_size a rs) }))
compared (a ∷ rs) (b ∷ ss) t u small small' is =
    let both : frame a ++ (frames rs ++ t) ≡ frame b ++ (frames ss ++ u) = sym (append_assoc (frame a) (frames rs) t) ∙ is ∙ append_assoc (frame b) (frames ss) u in
    let short : length a < 2 ^ 32 = omega (arith, small, frames_size a rs) in
    let short' : length b < 2 ^ 32 = omega (arith, small', frames_size b ss) in
    one_more a b rs ss t u (same_bytes a b (frames rs ++ t) (frames ss ++ u) short short' both)
    (compared rs ss t u (omega (arith, small, frames_size a rs)) (omega (arith, small', frames_size b ss)) (same_rest a b (frames rs ++ t) (frames ss ++ u) short short' both))

-- ---- what stands before the first gate

same_selected : (v w m n : ℕ) → v ≡ w → Selects v m → Selects w n → m ≡ n
same_selected v w m n is (inl a) (inl b) = a.1 ∙ sym b.1
same_selected v w m n is (inl a) (inr b) = absurd (b.0 (sym is ∙ a.0))
same_selected v w m n is (inr a) (inl b) = absurd (a.0 (is ∙ b.0))
same_selected v w m n is (inr a) (inr b) = a.1 ∙ sym b.1

same_slot : (file : List ℕ) (v w m n o p : ℕ) → bytes_at 8 1 file ≡ v ∷ [] → bytes_at 8 1 file ≡ w ∷ [] → Selects v m → Selects w n
    → bytes_at (slot_place m) 8 file ≡ to_le_bytes w64 o → bytes_at (slot_place n) 8 file ≡ to_le_bytes w64 p → o < 2 ^ 64 → p < 2 ^ 64 → (m ≡ n) × (o ≡ p)
same_slot file v w m n o p v_is w_is selects selects' slot slot' small small' =
    let same : v ≡ w = ap (λ (l : List ℕ). get_or l 0 0) (sym v_is ∙ w_is) in
    let which : m ≡ n = same_selected v w m n same selects selects' in
    (which, same_offset o p small small' (sym slot ∙ ap (λ (k : ℕ). bytes_at (slot_place k) 8 file) which ∙ slot'))

pub same_base : (offset : ℕ) (file b c : List ℕ) → length b < 2 ^ 32 → length c < 2 ^ 32 → bytes_at offset (4 + length b) file ≡ to_le_bytes w32 (length b) ++ b
    → bytes_at offset (4 + length c) file ≡ to_le_bytes w32 (length c) ++ c → b ≡ c
same_base offset file b c small small' is is' =
    let front : take 4 (drop offset file) ≡ to_le_bytes w32 (length b) =
    sym (take_front 4 (4 + length b) (drop offset file) (omega arith)) ∙ ap (λ (l : List ℕ). take 4 l) is in
    let front' : take 4 (drop offset file) ≡ to_le_bytes w32 (length c) =
    sym (take_front 4 (4 + length c) (drop offset file) (omega arith)) ∙ ap (λ (l : List ℕ). take 4 l) is' in
    let size : length b ≡ length c = same_size (length b) (length c) small small' (sym front ∙ front') in
    ap (λ (l : List ℕ). drop 4 l) (sym is) ∙ ap (λ (n : ℕ). drop 4 (bytes_at offset (4 + n) file)) size ∙ ap (λ (l : List ℕ). drop 4 l) is'

pub one_lead : (f g : Form) (file b c : List ℕ) (p q : ℕ) → p < limit → q < limit → LeadsTo f file b p → LeadsTo g file c q → (b ≡ c) × (p ≡ q)
one_lead Short g file b c p q small small' leads leads' = absurd leads
one_lead SlotsShort g file b c p q small small' leads leads' = absurd leads
one_lead Plain Short file b c p q small small' leads leads' = absurd leads'
one_lead Plain SlotsShort file b c p q small small' leads leads' = absurd leads'
one_lead Plain Plain file b c p q small small' leads leads' = (leads.1 ∙ sym leads'.1, leads.2 ∙ sym leads'.2)
one_lead Plain (Slots n o) file b c p q small small' leads leads' = absurd (other_header file leads.0 leads'.header)
one_lead (Slots m o) Short file b c p q small small' leads leads' = absurd leads'
one_lead (Slots m o) SlotsShort file b c p q small small' leads leads' = absurd leads'
one_lead (Slots m o) Plain file b c p q small small' leads leads' = absurd (other_header file leads'.0 leads.header)
one_lead (Slots m o) (Slots n r) file b c p q small small' leads leads' =
    let low : o < 2 ^ 64 = omega (arith, small, leads.place_is) in
    let low' : r < 2 ^ 64 = omega (arith, small', leads'.place_is) in
    let slot = same_slot file leads.selector leads'.selector m n o r leads.selector_is leads'.selector_is leads.selects leads'.selects leads.slot leads'.slot low low' in
    let few : length b < 2 ^ 32 = omega (arith, small, leads.place_is) in
    let few' : length c < 2 ^ 32 = omega (arith, small', leads'.place_is) in
    let base : b ≡ c = same_base o file b c few few' leads.based (ap (λ (k : ℕ). bytes_at k (4 + length c) file) slot.1 ∙ leads'.based) in
    (base, omega (arith, leads.place_is, leads'.place_is, slot.1, ap length base))

-- ---- what is held

is_open : (gate : ℕ) (rest : List ℕ) (rs ss : List (List ℕ)) → GoesOn rs ss (gate ∷ rest) → gate ≡ 1
is_open gate rest rs ss on = ap (λ (l : List ℕ). get_or l 0 0) on.split

same_lists : (rs ss : List (List ℕ)) (gate shut : ℕ) (t u : List ℕ) → gate ≢ 1 → shut ≢ 1 → Compared rs ss (gate ∷ t) (shut ∷ u) → rs ≡ ss
same_lists rs ss gate shut t u closed closed' (inl is) = is.0
same_lists rs ss gate shut t u closed closed' (inr (inl on)) = absurd (closed (is_open gate t rs ss on))
same_lists rs ss gate shut t u closed closed' (inr (inr on)) = absurd (closed' (is_open shut u ss rs on))

pub one_reading : (file b c : List ℕ) (rs ss : List (List ℕ)) → Holds file b rs → Holds file c ss → (b ≡ c) × (rs ≡ ss)
one_reading file b c rs ss (inl x) (inl y) = (x.1 ∙ sym y.1, x.2 ∙ sym y.2)
one_reading file b c rs ss (inl x) (inr y) = absurd (y.0 x.0)
one_reading file b c rs ss (inr x) (inl y) = absurd (x.0 y.0)
one_reading file b c rs ss (inr (long, (f, j))) (inr (long', (g, k))) =
    let lead = one_lead f g file b c j.place k.place (omega (arith, j.within)) (omega (arith, k.within)) j.leads k.leads in
    let both : frames rs ++ j.gate ∷ j.rest ≡ frames ss ++ k.gate ∷ k.rest = sym j.split ∙ ap (λ (n : ℕ). drop n file) lead.1 ∙ k.split in
    (lead.0, same_lists rs ss j.gate k.gate j.rest k.rest j.closed k.closed (compared rs ss (j.gate ∷ j.rest) (k.gate ∷ k.rest) (omega (arith, j.within)) (omega (arith, k.within)) both))

-- ---- one damage

-- what an open gate needs behind it at a damaged place
abbrev NoRecordFits : ℕ → List ℕ → Type 0
NoRecordFits place tail = (bytes rest : List ℕ) → tail ≡ frame bytes ++ rest → limit ≤ place + (5 + length bytes)

passes : (rs ss : List (List ℕ)) (t : List ℕ) (from place : ℕ) → place ≡ from + length (frames rs) → NoRecordFits place t → GoesOn rs ss t → limit ≤ from + length (frames ss)
passes rs ss t from place here none on = omega (arith, none on.bytes on.more on.split, on.within, here)

clash : (rs ss : List (List ℕ)) (gate : ℕ) (t tail : List ℕ) (from place : ℕ) → gate ≢ 1 → from + length (frames rs) < limit → place ≡ from + length (frames ss)
    → ((shut : ℕ) (rest : List ℕ) → tail ≡ shut ∷ rest → shut ≡ 1) → NoRecordFits place tail → Compared rs ss (gate ∷ t) tail → ⊥
clash rs ss gate t tail from place closed within here gates none (inl is) = closed (gates gate t (sym is.1))
clash rs ss gate t tail from place closed within here gates none (inr (inl on)) = closed (is_open gate t rs ss on)
clash rs ss gate t tail from place closed within here gates none (inr (inr on)) = omega (arith, passes ss rs tail from place here none on, within)

-- a lead has one of the headers
no_lead : (f : Form) (file b : List ℕ) (p : ℕ) → take 8 file ≢ plain_header → take 8 file ≢ slots_header → LeadsTo f file b p → ⊥
no_lead Short file b p plain slots leads = leads
no_lead Plain file b p plain slots leads = plain leads.0
no_lead SlotsShort file b p plain slots leads = leads
no_lead (Slots m o) file b p plain slots leads = slots leads.header

-- and none where the slot names no base
no_base : (f : Form) (file b : List ℕ) (p place : ℕ) → p < limit → NamesOffset file place → ((which : ℕ) (base : List ℕ) (gate : ℕ) → HasSlots which place file base gate → limit ≤ gate) → LeadsTo f file b p → ⊥
no_base Short file b p place small named none leads = leads
no_base SlotsShort file b p place small named none leads = leads
no_base Plain file b p place small named none leads = other_header file leads.0 named.header
no_base (Slots m o) file b p place small named none leads =
    let low : o < 2 ^ 64 = omega (arith, small, leads.place_is) in
    let slot = same_slot file leads.selector named.selector m named.which o place leads.selector_is named.selector_is leads.selects named.selects leads.slot named.slot low named.small in
    omega (arith, small, none m b p (subst (λ (k : ℕ). HasSlots m k file b p) slot.1 leads))

pub not_both : (file b : List ℕ) (rs : List (List ℕ)) (place : ℕ) → Holds file b rs → IsDamaged file place → ⊥
not_both file b rs place (inl short) damaged = damaged.0 short.0
not_both file b rs place (inr (long, (f, j))) (_, inl d) = no_lead f file b j.place d.1 d.2 j.leads
not_both file b rs place (inr (long, (f, j))) (_, inr (inl d)) = no_base f file b j.place place (omega (arith, j.within)) d.0 d.1 j.leads
not_both file b rs place (inr (long, (f, j))) (_, inr (inr (g, c, gate, ss, tail, leads, split, here, small, gates, none))) =
    let lead = one_lead f g file b c j.place gate (omega (arith, j.within)) (omega (arith, here, small)) j.leads leads in
    let both : frames rs ++ j.gate ∷ j.rest ≡ frames ss ++ tail = sym j.split ∙ ap (λ (n : ℕ). drop n file) lead.1 ∙ split in
    clash rs ss j.gate j.rest tail j.place place j.closed j.within (omega (arith, here, lead.1)) gates none
    (compared rs ss (j.gate ∷ j.rest) tail (omega (arith, j.within)) (omega (arith, here, small)) both)

same_places : (rs ss : List (List ℕ)) (t u : List ℕ) (from p q : ℕ) → p ≡ from + length (frames rs) → q ≡ from + length (frames ss) → p < limit → q < limit → NoRecordFits p t → NoRecordFits q u → Compared rs ss t u → p ≡ q
same_places rs ss t u from p q here there small small' none none' (inl is) = here ∙ ap (λ (l : List (List ℕ)). from + length (frames l)) is.0 ∙ sym there
same_places rs ss t u from p q here there small small' none none' (inr (inl on)) = absurd (omega (arith, passes rs ss t from p here none on, there, small'))
same_places rs ss t u from p q here there small small' none none' (inr (inr on)) = absurd (omega (arith, passes ss rs u from q there none' on, here, small))

no_named : (file : List ℕ) (place : ℕ) → take 8 file ≢ slots_header → NamesOffset file place → ⊥
no_named file place none named = none named.header

pub one_place : (file : List ℕ) (p q : ℕ) → IsDamaged file p → IsDamaged file q → p ≡ q
one_place file p q (_, inl a) (_, inl b) = a.0 ∙ sym b.0
one_place file p q (_, inl a) (_, inr (inl b)) = absurd (no_named file q a.2 b.0)
one_place file p q (_, inl a) (_, inr (inr (g, c, gate, ss, _, leads, _, _, _, _, _))) = absurd (no_lead g file c gate a.1 a.2 leads)
one_place file p q (_, inr (inl a)) (_, inl b) = absurd (no_named file p b.2 a.0)
one_place file p q (_, inr (inl a)) (_, inr (inl b)) =
    (same_slot file a.0.selector b.0.selector a.0.which b.0.which p q a.0.selector_is b.0.selector_is a.0.selects b.0.selects a.0.slot b.0.slot a.0.small b.0.small).1
one_place file p q (_, inr (inl a)) (_, inr (inr (g, c, gate, ss, _, leads, _, here, small, _, _)))
    = absurd (no_base g file c gate p (omega (arith, here, small)) a.0 a.1 leads)
one_place file p q (_, inr (inr (f, b, from, rs, _, leads, _, _, _, _, _))) (_, inl d) = absurd (no_lead f file b from d.1 d.2 leads)
one_place file p q (_, inr (inr (f, b, from, rs, _, leads, _, here, small, _, _))) (_, inr (inl d))
    = absurd (no_base f file b from q (omega (arith, here, small)) d.0 d.1 leads)
one_place file p q (_, inr (inr (f, b, from, rs, t, leads, split, here, small, gates, none))) (_, inr (inr (g, c, gate, ss, u, leads', split', here', small', gates', none'))) =
    let lead = one_lead f g file b c from gate (omega (arith, here, small)) (omega (arith, here', small')) leads leads' in
    let both : frames rs ++ t ≡ frames ss ++ u = sym split ∙ ap (λ (n : ℕ). drop n file) lead.1 ∙ split' in
    same_places rs ss t u from p q here (omega (arith, here', lead.1)) small small' none none'
    (compared rs ss t u (omega (arith, here, small)) (omega (arith, here', small')) both)

-- so what a walk tells is all that can be told
pub only_fault : (file : List ℕ) (fault : JournalFault) → IsFault file fault → IsOnlyFault file fault
only_fault file (Damaged place) damaged = (λ other is. one_place file other place is damaged, λ base records holds. not_both file base records place holds damaged)
only_fault file DiskFault told = tt
only_fault file Memory told = tt

-- ---- the records ahead

-- an open gate has a record behind it
pub next_ahead : (place : ℕ) (rest body b after : List ℕ) (records : List (List ℕ)) (next : ℕ) → AreAhead place rest records → rest ≡ 1 ∷ body → body ≡ to_le_bytes w32 (length b) ++ b ++ after
    → length b < 2 ^ 32 → (place + (5 + length b) < limit → next ≡ place + (5 + length b)) → IsNext place records b next after
next_ahead place rest body b after records next (inl none) is_open is_record small step = absurd (omega (arith, ap length (sym none.0 ∙ is_open)))
next_ahead place rest body b after [] next (inr on) is_open is_record small step =
    absurd (on.closed (ap (λ (l : List ℕ). get_or l 0 0) (sym on.split ∙ is_open)))
next_ahead place rest body b after (r ∷ records) next (inr on) is_open is_record small step =
    let behind : List ℕ = on.gate ∷ on.rest in
    let whole : frame r ++ (frames records ++ behind) ≡ frame b ++ after =
    sym (append_assoc (frame r) (frames records) behind) ∙ sym on.split ∙ is_open ∙ ap (λ (l : List ℕ). 1 ∷ l) is_record in
    let short : length r < 2 ^ 32 = omega (arith, on.within, frames_size r records) in
    let same : r ≡ b = same_bytes r b (frames records ++ behind) after short small whole in
    let long : length r ≡ length b = ap length same in
    let there : next ≡ place + (5 + length b) = step (omega (arith, on.within, frames_size r records, long)) in
    record {
      others = records;
      split = ap (λ (x : List ℕ). x ∷ records) same;
      behind = there;
      ahead = inr (record {
        gate = on.gate;
        rest = on.rest;
        split = sym (same_rest r b (frames records ++ behind) after short small whole);
        closed = on.closed;
        within = omega (arith, on.within, frames_size r records, long, there);
      });
    }

-- where no gate is open, none is ahead
pub none_ahead : (place : ℕ) (rest : List ℕ) (records : List (List ℕ)) → AreAhead place rest records → ((body : List ℕ) → rest ≢ 1 ∷ body) → records ≡ []
none_ahead place rest records (inl none) shut = none.1
none_ahead place rest [] (inr on) shut = refl
none_ahead place rest (r ∷ records) (inr on) shut =
    absurd (shut (to_le_bytes w32 (length r) ++ r ++ (frames records ++ on.gate ∷ on.rest)) (on.split ∙ append_assoc (frame r) (frames records) (on.gate ∷ on.rest)))

-- nor where an open one has no record behind it
pub none_named : (place : ℕ) (rest body : List ℕ) (records : List (List ℕ)) → AreAhead place rest records → rest ≡ 1 ∷ body → NamesNoRecord body → records ≡ []
none_named place rest body records (inl none) is_open named = none.1
none_named place rest body [] (inr on) is_open named = refl
none_named place rest body (r ∷ records) (inr on) is_open named =
    let behind : List ℕ = frames records ++ on.gate ∷ on.rest in
    let whole : body ≡ to_le_bytes w32 (length r) ++ r ++ behind = ap (λ (l : List ℕ). drop 1 l) (sym is_open ∙ on.split ∙ append_assoc (frame r) (frames records) (on.gate ∷ on.rest)) in
    absurd (omega (arith, named r behind whole, on.within, frames_size r records))
