-- A word that is read as a number is the number, written in digits.
use Rattle.std.proofs.Common.{◌≡◌, ◌≢◌, ◌∙◌, sym, ap, refl, ℕ, zero, suc, ◌<◌, ◌≤◌, ◌^◌, List, [], ◌∷◌, length, get_or, drop, position, Bool, true, false, not, ◌&&◌, cond, eqb, ltb, ℤ, pos, negsuc, Option, Some, None, Result, Ok, Err, arith, slice_index}
use Rattle.std.proofs.lemmas.Bool.{and_parts, eq-eqb, eqb-true, eqb-false, ltb-false, not-false}
use Rattle.std.proofs.lemmas.Bool.Decides.{Decides-by_and}
use Rattle.std.proofs.lemmas.Fmt.{decimal-digits_value}
use Rattle.std.proofs.lemmas.List.Sums.{fails_before_first}
use Rattle.std.proofs.lemmas.Option.{cond_some}
use Rattle.std.specs.Fmt.{decimal, signed_decimal}
use Rattle.std.specs.List.{list_all}
use Rattle.units_core.specs.Name.{is_name}
use Rattle.units_core.specs.declared.number.NumberFault.{NumberFault}
use Rattle.units_core.specs.declared.number.NumberFault.TheVariants.{Empty, NotDigit, LeadingZero, Zero, TooLarge}
use Rattle.units_core.specs.Number.{is_digit, value_of, of_digits, of_first, number_of, of_amount, amount_of}
use Rattle.units_core.specs.Signed.{has_minus, plus_of, minus_of, signed_of}
use Rattle.command_types.specs.Grammar.{value_or_none, name_word, amount_word, number_word, signed_word}
use Rattle.dual_certificate.proofs.NumberTexts.{own}
use Rattle.dual_certificate.proofs.PieceFacts.{nowhere}
use Rattle.dual_certificate.proofs.RangeFacts.{past}

-- where no byte is another, all are digits
digits_all : (text : List ℕ) → position (λ c. not (is_digit c)) text ≡ None → list_all is_digit text ≡ true
digits_all text h =
    let end = nowhere (λ c. not (is_digit c)) text h in
    (Decides-by_and is_digit (λ b. is_digit b ≡ true) (list_all is_digit) (λ b. ((λ e. e), (λ e. e))) refl (λ _ _. refl) text).1
    (λ k d l. not-false (is_digit (get_or text k d)) (fails_before_first (λ c. not (is_digit c)) text k d (omega (arith, end))))

first_false : (a b : Bool) → (a && b) ≡ false → b ≡ true → a ≡ false
first_false true true h e = absurd cc
first_false true false h e = absurd cc
first_false false b h e = refl

digits_read : (text : List ℕ) (most n : ℕ) → most < 2 ^ 64 → eqb (length text) 0 ≡ false → position (λ c. not (is_digit c)) text ≡ None → of_digits text most ≡ Ok n → text ≡ decimal n
digits_read text most n few some none h =
    let inner = past (ltb 1 (length text) && eqb (slice_index text 0) 48) LeadingZero (cond (ltb most (value_of text)) (Err TooLarge) (Ok (value_of text))) n h in
    let last = past (ltb most (value_of text)) TooLarge (Ok (value_of text)) n inner.1 in
    let same : value_of text ≡ n = cc (last.1) in
    let within : value_of text ≤ most = ltb-false _ _ last.0 in
    let begun : length text ≢ 0 = eqb-false (length text) 0 some in
    let one : get_or text 0 0 ≡ 48 → length text ≡ 1 =
    (λ e. (let short = ltb-false 1 (length text) (first_false (ltb 1 (length text)) (eqb (slice_index text 0) 48) inner.0 (eq-eqb (get_or text 0 0) 48 e)) in omega (arith, short, begun))) in
    sym (decimal-digits_value own text (digits_all text none) (omega (arith, begun)) one (omega arith)) ∙ ap decimal same

first_read : (at : Option ℕ) (text : List ℕ) (most n : ℕ) → most < 2 ^ 64 → eqb (length text) 0 ≡ false → position (λ c. not (is_digit c)) text ≡ at → of_first at text most ≡ Ok n → text ≡ decimal n
first_read (Some at) text most n few some first h = absurd cc
first_read None text most n few some first h = digits_read text most n few some first h

number_read : (text : List ℕ) (most n : ℕ) → most < 2 ^ 64 → number_of text most ≡ Ok n → text ≡ decimal n
number_read text most n few h =
    let first = position (λ c. not (is_digit c)) text in
    let some = past (eqb (length text) 0) Empty (of_first first text most) n h in
    first_read first text most n few some.0 refl some.1

value_is : {A : Type 0} (r : Result A NumberFault) (v : A) → value_or_none r ≡ Some v → r ≡ Ok v
value_is (Ok w) v h = cc
value_is (Err fault) v h = absurd cc

pub number_word_read : (word : List ℕ) (n : ℕ) → number_word word ≡ Some n → word ≡ decimal n
number_word_read word n h = number_read word 1000000000000000000 n (omega arith) (value_is (number_of word 1000000000000000000) n h)

amount_is : (r : Result ℕ NumberFault) (n : ℕ) → of_amount r ≡ Ok n → r ≡ Ok n
amount_is (Ok m) n h = (past (eqb m 0) Zero (Ok m) n h).1
amount_is (Err fault) n h = absurd cc

pub amount_word_read : (word : List ℕ) (n : ℕ) → amount_word word ≡ Some n → word ≡ decimal n
amount_word_read word n h =
    number_read word 1000000000000000000 n (omega arith) (amount_is (number_of word 1000000000000000000) n (value_is (amount_of word) n h))

-- digits behind a '-' were read
record IsMinus (r : Result ℕ NumberFault) (z : ℤ) : Type 0 where
  rest : ℕ
  read : r ≡ Ok (suc rest)
  value : negsuc rest ≡ z

minus_is : (r : Result ℕ NumberFault) (z : ℤ) → minus_of r ≡ Ok z → IsMinus r z
minus_is (Ok zero) z h = absurd cc
minus_is (Ok (suc m)) z h = record { rest = m; read = refl; value = cc ((past (eqb (suc m) 0) Zero (Ok (negsuc m)) z h).1) }
minus_is (Err (NotDigit at)) z h = absurd cc
minus_is (Err fault) z h = absurd cc

-- digits with nothing in front were read
record IsPlus (r : Result ℕ NumberFault) (z : ℤ) : Type 0 where
  size : ℕ
  read : r ≡ Ok size
  value : pos size ≡ z

plus_is : (r : Result ℕ NumberFault) (z : ℤ) → plus_of r ≡ Ok z → IsPlus r z
plus_is (Ok n) z h = record { size = n; read = refl; value = cc }
plus_is (Err fault) z h = absurd cc

minus_front : (text : List ℕ) → has_minus text ≡ true → text ≡ 45 ∷ drop 1 text
minus_front [] h = absurd cc
minus_front (c ∷ cs) h = ap (λ b. b ∷ cs) (eqb-true c 45 (and_parts (ltb 0 (length (c ∷ cs))) (eqb c 45) h).1)

signed_by : (text : List ℕ) (z : ℤ) (b : Bool) → has_minus text ≡ b → cond b (minus_of (number_of (drop 1 text) 1000000)) (plus_of (number_of text 1000000)) ≡ Ok z → text ≡ signed_decimal z
signed_by text z true e h =
    let minus = minus_is (number_of (drop 1 text) 1000000) z h in
    minus_front text e ∙ ap (λ ds. 45 ∷ ds) (number_read (drop 1 text) 1000000 (suc minus.rest) (omega arith) minus.read) ∙ ap signed_decimal minus.value
signed_by text z false e h =
    let plus = plus_is (number_of text 1000000) z h in
    number_read text 1000000 plus.size (omega arith) plus.read ∙ ap signed_decimal plus.value

pub signed_word_read : (word : List ℕ) (z : ℤ) → signed_word word ≡ Some z → word ≡ signed_decimal z
signed_word_read word z h = signed_by word z (has_minus word) refl (value_is (signed_of word) z h)

pub name_word_read : (word name : List ℕ) → name_word word ≡ Some name → word ≡ name
name_word_read word name h = (cond_some (is_name word) word name h).1
