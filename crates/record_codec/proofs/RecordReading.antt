-- Whole records: what is read is spelled so, what is spelled so is read, no bytes spell two changes, and the turn spells none.
use Rattle.std.proofs.Common.{◌≡◌, ℕ, Bool, true, false, cond, eqb, List, [], ◌++◌, length, Option, Some, None, Result, Ok, Err, refl, sym, ap, subst, ◌∙◌, append_assoc, append-nil, eqb-true}
use Rattle.std.specs.Prelude.{IfOk}
use Rattle.std.specs.Int.{w32, to_le_bytes}
use Rattle.std.proofs.lemmas.List.{nil_from_length}
use Rattle.command_types.specs.declared.ask.Entry.{Entry}
use Rattle.command_types.specs.declared.ask.What.{What}
use Rattle.command_types.specs.declared.spelling.Spelling.{Spelling}
use Rattle.command_types.specs.declared.spelling.Spelling.TheVariants.{First, Second}
use Rattle.command_types.specs.Spelling.{name_spelling, moment_spelling, fields_spelling, spelling, turn, IsChange, Spells}
use Rattle.record_codec.specs.declared.fault.DecodeFault.{DecodeFault}
use Rattle.record_codec.specs.Reading.{Read, ◌>>=◌, field, seat_at, name_at, change_at, entry_at, entry_of, by_offset, read_record}
use Rattle.record_codec.specs.Laws.{Decodes, SpellingsAreUnique, TurnIsNoChange}
use Rattle.record_codec.proofs.FieldFacts.{IsBytes, Takes, Takes-then, bind_ok, ok_is, seq_takes, seq_again}
use Rattle.record_codec.proofs.KindFacts.{moment_format, seat_format, name_format}
use Rattle.record_codec.proofs.ChangeReading.{change_format}

abbrev after_change : ℕ → ℕ → List ℕ → What × List ℕ → Read Entry
after_change moment seat party what = Ok (record { seat = seat; ask = record { by = Some party; what = what.0; moment = moment } }, what.1)

abbrev after_party : ℕ → ℕ → List ℕ × List ℕ → Read Entry
after_party moment seat party = change_at party.1 >>= after_change moment seat party.0

abbrev after_seat : ℕ → ℕ × List ℕ → Read Entry
after_seat moment seat = name_at seat.1 >>= after_party moment seat.0

abbrev after_moment : ℕ × List ℕ → Read Entry
after_moment moment = seat_at moment.1 >>= after_seat moment.0

entry_takes : (form : Spelling) (bytes : List ℕ) (x : Entry × List ℕ) → IsBytes bytes → entry_at form bytes ≡ Ok x → Takes bytes (spelling form x.0) x.1 × IsChange form x.0
unfolding entry_at
entry_takes form bytes x fits e =
    let m = seq_takes (moment_format form) bytes after_moment x fits e in
    let s = seq_takes seat_format m.0.1 (after_seat m.0.0) x m.1.rest_fits m.3 in
    let p = seq_takes name_format s.0.1 (after_party m.0.0 s.0.0) x s.1.rest_fits s.3 in
    let w = seq_takes change_format p.0.1 (after_change m.0.0 s.0.0 p.0.0) x p.1.rest_fits p.3 in
    let time : List ℕ = moment_spelling form m.0.0 in
    let t2 = Takes-then bytes time m.0.1 (to_le_bytes w32 s.0.0) s.0.1 m.1 s.1 in
    let t3 = Takes-then bytes (time ++ to_le_bytes w32 s.0.0) s.0.1 (name_spelling p.0.0) p.0.1 t2 p.1 in
    let t4 = Takes-then bytes (time ++ to_le_bytes w32 s.0.0 ++ name_spelling p.0.0) p.0.1 (fields_spelling w.0.0) w.0.1 t3 w.1 in
    subst (λ (y : Entry × List ℕ). Takes bytes (spelling form y.0) y.1 × IsChange form y.0) (ok_is (record { seat = s.0.0; ask = record { by = Some p.0.0; what = w.0.0; moment = m.0.0 } }, w.0.1) x w.3)
    (t4, record { moment = m.2; seat = s.2; party = p.2; fields = w.2 })

regroup_4 : (a b c d rest : List ℕ) → a ++ b ++ c ++ d ++ rest ≡ a ++ (b ++ (c ++ (d ++ rest)))
regroup_4 a b c d rest = simp append_assoc

entry_again_by : (form : Spelling) (moment seat : ℕ) (by : Option (List ℕ)) (what : What) (rest : List ℕ) → IsChange form (record { seat = seat; ask = record { by = by; what = what; moment = moment } })
    → entry_at form (spelling form (record { seat = seat; ask = record { by = by; what = what; moment = moment } }) ++ rest) ≡ Ok (record { seat = seat; ask = record { by = by; what = what; moment = moment } }, rest)
unfolding entry_at
entry_again_by form moment seat None what rest is = absurd is.party
entry_again_by form moment seat (Some party) what rest is =
    let r3 : List ℕ = fields_spelling what ++ rest in
    let r2 : List ℕ = name_spelling party ++ r3 in
    let r1 : List ℕ = to_le_bytes w32 seat ++ r2 in
    ap (entry_at form) (regroup_4 (moment_spelling form moment) (to_le_bytes w32 seat) (name_spelling party) (fields_spelling what) rest)
    ∙ seq_again (moment_format form) moment r1 after_moment is.moment
    ∙ seq_again seat_format seat r2 (after_seat moment) is.seat
    ∙ seq_again name_format party r3 (after_party moment seat) is.party
    ∙ seq_again change_format what rest (after_change moment seat party) is.fields

entry_again : (form : Spelling) (e : Entry) (rest : List ℕ) → IsChange form e → entry_at form (spelling form e ++ rest) ≡ Ok (e, rest)
entry_again form e rest is = entry_again_by form e.ask.moment e.seat e.ask.by e.ask.what rest is

-- ---- the whole record

-- nothing follows
abbrev ended : Entry × List ℕ → Result Entry ℕ
ended x = cond (eqb (length x.1) 0) (Ok x.0) (Err (length x.1))

ended_ok : (b : Bool) (left : ℕ) (x y : Entry) → cond b (Ok x) (Err left) ≡ Ok y → (b ≡ true) × (x ≡ y)
ended_ok true left x y e = (refl, cc)
ended_ok false left x y e = absurd cc

record_takes : (form : Spelling) (bytes : List ℕ) (e : Entry) → IsBytes bytes → entry_of form bytes ≡ Ok e → Spells form bytes e
unfolding entry_of
record_takes form bytes e fits h =
    let x = bind_ok (entry_at form bytes) ended e h in
    let t = entry_takes form bytes x.0 fits x.1 in
    let g = ended_ok (eqb (length x.0.1) 0) (length x.0.1) x.0.0 e x.2 in
    let nothing : x.0.1 ≡ [] = nil_from_length x.0.1 (eqb-true _ _ g.0) in
    let whole : bytes ≡ spelling form x.0.0 = t.0.parts ∙ ap (λ (r : List ℕ). spelling form x.0.0 ++ r) nothing ∙ append-nil (spelling form x.0.0) in
    subst (λ (y : Entry). Spells form bytes y) g.1 (record { change = t.1; same = whole })

record_again : (form : Spelling) (bytes : List ℕ) (e : Entry) → Spells form bytes e → entry_of form bytes ≡ Ok e
unfolding entry_of
record_again form bytes e s =
    let read : entry_at form bytes ≡ Ok (e, []) = ap (entry_at form) (s.same ∙ sym (append-nil (spelling form e))) ∙ entry_again form e [] s.change in
    ap (λ (r : Read Entry). r >>= ended) read

offset_ok : (size : ℕ) (r : Result Entry ℕ) (e : Entry) → by_offset size r ≡ Ok e → r ≡ Ok e
offset_ok size (Ok x) e h = h
offset_ok size (Err left) e h = absurd cc

pub read_takes : (form : Spelling) (bytes : List ℕ) (e : Entry) → IsBytes bytes → read_record form bytes ≡ Ok e → Spells form bytes e
read_takes form bytes e fits h = record_takes form bytes e fits (offset_ok (length bytes) (entry_of form bytes) e h)

pub read_again : (form : Spelling) (bytes : List ℕ) (e : Entry) → Spells form bytes e → read_record form bytes ≡ Ok e
read_again form bytes e s = ap (by_offset (length bytes)) (record_again form bytes e s)

-- ---- what decode says

pub is_found : (form : Spelling) (bytes : List ℕ) (r : Result Entry DecodeFault) → IsBytes bytes → Decodes r (read_record form bytes) → IfOk r (λ e. Spells form bytes e)
is_found form bytes (Ok e) fits given = read_takes form bytes e fits given
is_found form bytes (Err fault) fits given = tt

pub is_bad : (form : Spelling) (bytes : List ℕ) (at : ℕ) (e : Entry) → read_record form bytes ≡ Err at → Spells form bytes e → ⊥
is_bad form bytes at e h s = clash (read_record form bytes) h (read_again form bytes e s)
  where
    clash : (r : Result Entry ℕ) → r ≡ Err at → r ≡ Ok e → ⊥
    clash (Ok x) p q = absurd cc
    clash (Err left) p q = absurd cc

pub unique : SpellingsAreUnique
unique form bytes a b s t = ok_is a b (sym (read_again form bytes a s) ∙ read_again form bytes b t)

turn_at : (form : Spelling) → (at : ℕ) × (read_record form turn ≡ Err at)
unfolding entry_of entry_at field change_at
turn_at First = (4, refl)
turn_at Second = (0, refl)

pub turn_none : TurnIsNoChange
turn_none form e s = is_bad form turn (turn_at form).0 e (turn_at form).1 s
