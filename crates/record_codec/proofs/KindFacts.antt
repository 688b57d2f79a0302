-- Each kind of field: numbers, names, amounts, levels, days and ceilings.
use Rattle.std.proofs.Common.{◌≡◌, ℕ, suc, ◌^◌, ◌<◌, ◌≤◌, ◌&&◌, Bool, true, false, cond, eqb, leb, List, [], ◌∷◌, ◌++◌, length, get_or, take, drop, Option, Some, None, Ok, refl, sym, ap, subst, ◌∙◌, ◌⊎◌, inl, inr, IsTrue, IfSome, arith, leb-true, le-leb, eqb-true}
use Rattle.std.specs.Int.{w16, w32, w64, to_le_bytes, from_le_bytes}
use Rattle.std.proofs.lemmas.Bool.{and_parts, and_from, cond-true}
use Rattle.std.proofs.lemmas.List.{take-append-drop, length-take}
use Rattle.std.proofs.lemmas.Nat.{le_bytes_2, le_bytes_4, le_bytes_8, from_le_bytes-to_le_bytes_2, from_le_bytes-to_le_bytes_4, from_le_bytes-to_le_bytes_8}
use Rattle.units_core.specs.Name.{is_name}
use Rattle.units_core.specs.Number.{is_amount}
use Rattle.units_core.specs.Day.{DayParts, is_civil, day_numbered}
use Rattle.command_types.specs.declared.spelling.Spelling.{Spelling}
use Rattle.command_types.specs.declared.spelling.Spelling.TheVariants.{First, Second}
use Rattle.command_types.specs.Spelling.{number_spelling, name_spelling, moment_spelling, day_spelling, ceiling_spelling, IsLevel, IsMoment, IsDay}
use Rattle.record_codec.specs.Reading.{field, number_in, count_in, name_in, amount_in, level_in, moment_in, day_in, moment_at, seat_at, number_at, count_at, row_count_at, name_at, amount_at, level_at, day_at, given_at, ceiling_if, ceiling_at}
use Rattle.record_codec.proofs.FieldFacts.{IsBytes, IsBytes-take, IsBytes-drop, IsBytes-rest, Takes, IsFormat, IsField, format_of, field_ok, field_again, ok_is, seq_takes, seq_again}

abbrev pub some : {A : Type 0} → A → Option A
some x = Some x

pub some_is : {A : Type 0} (x y : A) → some x ≡ some y → x ≡ y
some_is x y e = cc

-- a test that a value passed
chosen : {A : Type 0} (b : Bool) (x y : A) → cond b (Some x) None ≡ some y → (b ≡ true) × (x ≡ y)
chosen true x y e = (refl, cc)
chosen false x y e = absurd cc

-- the same value passes it again
tested : {A : Type 0} (test : A → Bool) (m n : A) → m ≡ n → test n ≡ true → cond (test m) (Some m) None ≡ some n
tested {A} test m n e t = subst (λ (k : A). cond (test k) (Some k) None ≡ some n) (sym e) (cond-true (test n) (some n) None t)

-- ---- numbers

wide32 : IsField 4 (number_in w32) (to_le_bytes w32) (λ n. n < 2 ^ 32)
wide32 = record {
  back = λ text n len fits e.
      let is : from_le_bytes w32 text ≡ n = some_is (from_le_bytes w32 text) n e in
      (sym (le_bytes_4 text n len fits (sym is)), subst (λ (k : ℕ). k < 2 ^ 32) is (omega (arith, fits 0, fits 1, fits 2, fits 3)));
  again = λ n lt. ap some (from_le_bytes-to_le_bytes_4 n lt);
  sized = λ n lt. refl;
}

pub seat_format : IsFormat seat_at (to_le_bytes w32) (λ n. n < 2 ^ 32)
seat_format = format_of 4 (number_in w32) (to_le_bytes w32) (λ n. n < 2 ^ 32) wide32

pub row_count_format : IsFormat row_count_at (to_le_bytes w32) (λ n. n < 2 ^ 32)
row_count_format = format_of 4 (number_in w32) (to_le_bytes w32) (λ n. n < 2 ^ 32) wide32

wide64 : IsField 8 (number_in w64) number_spelling (λ n. n < 2 ^ 64)
wide64 = record {
  back = λ text n len fits e.
      let is : from_le_bytes w64 text ≡ n = some_is (from_le_bytes w64 text) n e in
      (sym (le_bytes_8 text n len fits (sym is)), subst (λ (k : ℕ). k < 2 ^ 64) is (omega (arith, fits 0, fits 1, fits 2, fits 3, fits 4, fits 5, fits 6, fits 7)));
  again = λ n lt. ap some (from_le_bytes-to_le_bytes_8 n lt);
  sized = λ n lt. refl;
}

pub number_format : IsFormat number_at number_spelling (λ n. n < 2 ^ 64)
number_format = format_of 8 (number_in w64) number_spelling (λ n. n < 2 ^ 64) wide64

count_field : (most : ℕ) → most < 2 ^ 16 → IsField 2 (count_in most) (to_le_bytes w16) (λ n. n ≤ most)
count_field most small = record {
  back = λ text n len fits e.
      let c = chosen (leb (from_le_bytes w16 text) most) (from_le_bytes w16 text) n e in
      (sym (le_bytes_2 text n len fits (sym c.1)), subst (λ (k : ℕ). k ≤ most) c.1 (leb-true _ _ c.0));
  again = λ n le. tested (λ k. leb k most) (from_le_bytes w16 (to_le_bytes w16 n)) n (from_le_bytes-to_le_bytes_2 n (omega arith)) (le-leb _ _ le);
  sized = λ n le. refl;
}

pub count_format : (most : ℕ) → most < 2 ^ 16 → IsFormat (count_at most) (to_le_bytes w16) (λ n. n ≤ most)
count_format most small = format_of 2 (count_in most) (to_le_bytes w16) (λ n. n ≤ most) (count_field most small)

amount_fits : (n : ℕ) → is_amount n ≡ true → n < 2 ^ 64
amount_fits n is =
    let p = and_parts (leb 1 n) (leb n 1000000000000000000) is in
    let most = leb-true n 1000000000000000000 p.1 in
    omega arith

amount_field : IsField 8 amount_in number_spelling (λ n. IsTrue (is_amount n))
amount_field = record {
  back = λ text n len fits e.
      let c = chosen (is_amount (from_le_bytes w64 text)) (from_le_bytes w64 text) n e in
      (sym (le_bytes_8 text n len fits (sym c.1)), subst (λ (k : ℕ). is_amount k ≡ true) c.1 c.0);
  again = λ n is. tested (λ k. is_amount k) (from_le_bytes w64 (number_spelling n)) n (from_le_bytes-to_le_bytes_8 n (amount_fits n is)) is;
  sized = λ n is. refl;
}

pub amount_format : IsFormat amount_at number_spelling (λ n. IsTrue (is_amount n))
amount_format = format_of 8 amount_in number_spelling (λ n. IsTrue (is_amount n)) amount_field

level_field : IsField 8 level_in number_spelling IsLevel
level_field = record {
  back = λ text n len fits e.
      let c = chosen (leb (from_le_bytes w64 text) 1000000000000000000) (from_le_bytes w64 text) n e in
      (sym (le_bytes_8 text n len fits (sym c.1)), subst (λ (k : ℕ). k ≤ 1000000000000000000) c.1 (leb-true _ _ c.0));
  again = λ n le. tested (λ k. leb k 1000000000000000000) (from_le_bytes w64 (number_spelling n)) n (from_le_bytes-to_le_bytes_8 n (omega arith)) (le-leb _ _ le);
  sized = λ n le. refl;
}

pub level_format : IsFormat level_at number_spelling IsLevel
level_format = format_of 8 level_in number_spelling IsLevel level_field

-- ---- moments

told_field : IsField 8 moment_in number_spelling (IsMoment Second)
told_field = record {
  back = λ text n len fits e.
      let c = chosen (leb (from_le_bytes w64 text) 253402300799) (from_le_bytes w64 text) n e in
      (sym (le_bytes_8 text n len fits (sym c.1)), subst (λ (k : ℕ). k ≤ 253402300799) c.1 (leb-true _ _ c.0));
  again = λ n le. tested (λ k. leb k 253402300799) (from_le_bytes w64 (number_spelling n)) n (from_le_bytes-to_le_bytes_8 n (omega arith)) (le-leb _ _ le);
  sized = λ n le. refl;
}

told_format : IsFormat (moment_at Second) (moment_spelling Second) (IsMoment Second)
told_format = format_of 8 moment_in number_spelling (IsMoment Second) told_field

no_moment : IsFormat (moment_at First) (moment_spelling First) (IsMoment First)
no_moment = record {
  takes = λ bytes x fits e.
      subst (λ (y : ℕ × List ℕ). Takes bytes (moment_spelling First y.0) y.1 × IsMoment First y.0) (ok_is (0, bytes) x e) (record { parts = refl; rest_fits = fits }, refl);
  again = λ n rest is. ap (λ (m : ℕ). Ok (m, rest)) (sym is);
}

pub moment_format : (form : Spelling) → IsFormat (moment_at form) (moment_spelling form) (IsMoment form)
moment_format First = no_moment
moment_format Second = told_format

-- ---- days

day_back : (text : List ℕ) (d : DayParts) → length text ≡ 4 → IsBytes text → day_in text ≡ Some d → (text ≡ day_spelling d) × IsDay d
day_back [] d len fits e = absurd (omega arith)
day_back (a ∷ []) d len fits e = absurd (omega arith)
day_back (a ∷ b ∷ []) d len fits e = absurd (omega arith)
day_back (a ∷ b ∷ m ∷ []) d len fits e = absurd (omega arith)
day_back (a ∷ b ∷ m ∷ k ∷ []) d len fits e =
    let year : ℕ = from_le_bytes w16 (a ∷ b ∷ m ∷ k ∷ []) in
    let parts : DayParts = record { year = year; month = m; day = k } in
    let c = chosen (leb year 9999 && is_civil parts) parts d e in
    let both = and_parts (leb year 9999) (is_civil parts) c.0 in
    let front : to_le_bytes w16 year ≡ a ∷ b ∷ [] = le_bytes_2 (a ∷ b ∷ []) year refl (IsBytes-take 2 (a ∷ b ∷ m ∷ k ∷ []) fits) refl in
    let same : a ∷ b ∷ m ∷ k ∷ [] ≡ day_spelling parts = sym (ap (λ (t : List ℕ). t ++ m ∷ k ∷ []) front) in
    subst (λ (p : DayParts). (a ∷ b ∷ m ∷ k ∷ [] ≡ day_spelling p) × IsDay p) c.1 (same, (leb-true _ _ both.0, both.1))
day_back (a ∷ b ∷ m ∷ k ∷ z ∷ zs) d len fits e = absurd (omega arith)

day_again : (d : DayParts) → IsDay d → day_in (day_spelling d) ≡ Some d
day_again d is =
    let back : from_le_bytes w16 (day_spelling d) ≡ d.year = from_le_bytes-to_le_bytes_2 d.year (omega (arith, is.0)) in
    let here : day_numbered d.year d.month d.day ≡ some d = cond-true (leb d.year 9999 && is_civil d) (some d) None (and_from _ _ (le-leb _ _ is.0) is.1) in
    subst (λ (y : ℕ). day_numbered y d.month d.day ≡ some d) (sym back) here

pub day_format : IsFormat day_at day_spelling IsDay
day_format = format_of 4 day_in day_spelling IsDay (record { back = day_back; again = day_again; sized = λ d is. refl })

-- ---- one byte that is 0 or 1

pub single : (text : List ℕ) → length text ≡ 1 → text ≡ get_or text 0 0 ∷ []
single [] len = absurd (omega arith)
single (a ∷ []) len = refl
single (a ∷ b ∷ bs) len = absurd (omega arith)

one_of : {A : Type 0} (b c : Bool) (x y z : A) → cond b (Some x) (cond c (Some y) None) ≡ some z → ((b ≡ true) × (x ≡ z)) ⊎ ((c ≡ true) × (y ≡ z))
one_of true c x y z e = inl (refl, cc)
one_of false true x y z e = inr (refl, cc)
one_of false false x y z e = absurd cc

abbrev pub two_way : {A : Type 0} → A → A → List ℕ → Option A
two_way x y text = cond (eqb (get_or text 0 0) 0) (Some x) (cond (eqb (get_or text 0 0) 1) (Some y) None)

pub bit_format : {A : Type 0} (x y : A) (byte : A → ℕ) → byte x ≡ 0 → byte y ≡ 1 → ((a : A) → (x ≡ a) ⊎ (y ≡ a)) → IsFormat (field 1 (two_way x y)) (λ a. byte a ∷ []) (λ a. Unit {0})
bit_format {A} x y byte at_x at_y which = format_of 1 (two_way x y) (λ a. byte a ∷ []) (λ a. Unit {0}) (record {
  back = λ text a len fits e.
      let here = single text len in
      elim (one_of (eqb (get_or text 0 0) 0) (eqb (get_or text 0 0) 1) x y a e) [
        | inl p ↦ (here ∙ ap (λ (n : ℕ). n ∷ []) (eqb-true _ _ p.0 ∙ sym at_x ∙ ap byte p.1), tt)
        | inr p ↦ (here ∙ ap (λ (n : ℕ). n ∷ []) (eqb-true _ _ p.0 ∙ sym at_y ∙ ap byte p.1), tt)
      ];
  again = λ a is. elim (which a) [
    | inl p ↦ subst (λ (n : ℕ). cond (eqb n 0) (Some x) (cond (eqb n 1) (Some y) None) ≡ some a) (sym at_x ∙ ap byte p) (ap some p)
    | inr p ↦ subst (λ (n : ℕ). cond (eqb n 0) (Some x) (cond (eqb n 1) (Some y) None) ≡ some a) (sym at_y ∙ ap byte p) (ap some p)
  ];
  sized = λ a is. refl;
})

-- ---- one byte that is 0, 1 or 2

pub one_of_three : {A : Type 0} (b c d : Bool) (x y z a : A) → cond b (Some x) (cond c (Some y) (cond d (Some z) None)) ≡ some a → ((b ≡ true) × (x ≡ a)) ⊎ (((c ≡ true) × (y ≡ a)) ⊎ ((d ≡ true) × (z ≡ a)))
one_of_three true c d x y z a e = inl (refl, cc)
one_of_three false c d x y z a e = inr (one_of c d y z a e)

abbrev pub three_way : {A : Type 0} → A → A → A → List ℕ → Option A
three_way x y z text = cond (eqb (get_or text 0 0) 0) (Some x) (cond (eqb (get_or text 0 0) 1) (Some y) (cond (eqb (get_or text 0 0) 2) (Some z) None))

three_back : {A : Type 0} (x y z : A) (byte : A → ℕ) → byte x ≡ 0 → byte y ≡ 1 → byte z ≡ 2 → (text : List ℕ) (a : A) → length text ≡ 1 → three_way x y z text ≡ Some a → text ≡ byte a ∷ []
three_back x y z byte at_x at_y at_z text a len e =
    let first = get_or text 0 0 in
    let here = single text len in
    elim (one_of_three (eqb first 0) (eqb first 1) (eqb first 2) x y z a e) [
      | inl p ↦ here ∙ ap (λ (n : ℕ). n ∷ []) (eqb-true _ _ p.0 ∙ sym at_x ∙ ap byte p.1)
      | inr (inl p) ↦ here ∙ ap (λ (n : ℕ). n ∷ []) (eqb-true _ _ p.0 ∙ sym at_y ∙ ap byte p.1)
      | inr (inr p) ↦ here ∙ ap (λ (n : ℕ). n ∷ []) (eqb-true _ _ p.0 ∙ sym at_z ∙ ap byte p.1)
    ]

pub three_format : {A : Type 0} (x y z : A) (byte : A → ℕ) → byte x ≡ 0 → byte y ≡ 1 → byte z ≡ 2 → ((a : A) → three_way x y z (byte a ∷ []) ≡ Some a) → IsFormat (field 1 (three_way x y z)) (λ a. byte a ∷ []) (λ a. Unit {0})
three_format x y z byte at_x at_y at_z again = format_of 1 (three_way x y z) (λ a. byte a ∷ []) (λ a. Unit {0}) (record {
  back = λ text a len fits e. (three_back x y z byte at_x at_y at_z text a len e, tt);
  again = λ a is. again a;
  sized = λ a is. refl;
})

-- ---- names

name_takes : (bytes : List ℕ) (x : List ℕ × List ℕ) → IsBytes bytes → name_at bytes ≡ Ok x → Takes bytes (name_spelling x.0) x.1 × IsTrue (is_name x.0)
name_takes [] x fits e = absurd (omega (arith, (field_ok (suc (get_or [] 0 0)) name_in [] x e).0))
name_takes (size ∷ bytes) x fits e =
    let f = field_ok (suc size) name_in (size ∷ bytes) x e in
    let c = chosen (is_name (take size bytes)) (take size bytes) x.0 f.1 in
    let len : length x.0 ≡ size = ap length (sym c.1) ∙ omega (arith, length-take size bytes, f.0) in
    let parts : bytes ≡ x.0 ++ x.1 = sym (take-append-drop size bytes) ∙ ap (λ (t : List ℕ). t ++ drop size bytes) c.1 ∙ ap (λ (t : List ℕ). x.0 ++ t) f.2 in
    (record { parts = ap (λ (n : ℕ). n ∷ bytes) (sym len) ∙ ap (λ (t : List ℕ). length x.0 ∷ t) parts; rest_fits = subst IsBytes f.2 (IsBytes-drop size bytes (IsBytes-rest size bytes fits)) }, subst (λ (n : List ℕ). is_name n ≡ true) c.1 c.0)

name_again : (name rest : List ℕ) → IsTrue (is_name name) → name_at (name_spelling name ++ rest) ≡ Ok (name, rest)
name_again name rest is = field_again (suc (length name)) name_in (length name ∷ name) rest name refl (cond-true (is_name name) (some name) None is)

pub name_format : IsFormat name_at name_spelling (λ n. IsTrue (is_name n))
name_format = record { takes = name_takes; again = name_again }

-- ---- ceilings

abbrev given_byte : Bool → ℕ
given_byte false = 0
given_byte true = 1

which_given : (b : Bool) → (false ≡ b) ⊎ (true ≡ b)
which_given false = inl refl
which_given true = inr refl

given_format : IsFormat given_at (λ b. given_byte b ∷ []) (λ b. Unit {0})
given_format = bit_format false true given_byte refl refl which_given

ceiling_rest : (given : Bool) (bytes : List ℕ) (x : Option ℕ × List ℕ) → IsBytes bytes → ceiling_if given bytes ≡ Ok x → Takes (given_byte given ∷ bytes) (ceiling_spelling x.0) x.1 × IfSome x.0 IsLevel
ceiling_rest false bytes x fits e =
    subst (λ (y : Option ℕ × List ℕ). Takes (0 ∷ bytes) (ceiling_spelling y.0) y.1 × IfSome y.0 IsLevel) (ok_is (None, bytes) x e) (record { parts = refl; rest_fits = fits }, tt)
ceiling_rest true bytes x fits e =
    let s = seq_takes level_format bytes (λ c. Ok (Some c.0, c.1)) x fits e in
    subst (λ (y : Option ℕ × List ℕ). Takes (1 ∷ bytes) (ceiling_spelling y.0) y.1 × IfSome y.0 IsLevel) (ok_is (Some s.0.0, s.0.1) x s.3) (record { parts = ap (λ (t : List ℕ). 1 ∷ t) s.1.parts; rest_fits = s.1.rest_fits }, s.2)

ceiling_takes : (bytes : List ℕ) (x : Option ℕ × List ℕ) → IsBytes bytes → ceiling_at bytes ≡ Ok x → Takes bytes (ceiling_spelling x.0) x.1 × IfSome x.0 IsLevel
unfolding ceiling_at
ceiling_takes bytes x fits e =
    let s = seq_takes given_format bytes (λ g. ceiling_if g.0 g.1) x fits e in
    let r = ceiling_rest s.0.0 s.0.1 x s.1.rest_fits s.3 in
    (record { parts = s.1.parts ∙ r.0.parts; rest_fits = r.0.rest_fits }, r.1)

ceiling_again : (ceiling : Option ℕ) (rest : List ℕ) → IfSome ceiling IsLevel → ceiling_at (ceiling_spelling ceiling ++ rest) ≡ Ok (ceiling, rest)
unfolding ceiling_at
ceiling_again None rest is = seq_again given_format false rest (λ g. ceiling_if g.0 g.1) tt
ceiling_again (Some n) rest is = seq_again given_format true (number_spelling n ++ rest) (λ g. ceiling_if g.0 g.1) tt ∙ seq_again level_format n rest (λ c. Ok (Some c.0, c.1)) is

pub ceiling_format : IsFormat ceiling_at ceiling_spelling (λ ceiling. IfSome ceiling IsLevel)
ceiling_format = record { takes = ceiling_takes; again = ceiling_again }
