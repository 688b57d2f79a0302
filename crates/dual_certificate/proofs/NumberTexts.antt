-- A number that is written in digits is read as itself.
use Rattle.std.proofs.Common.{◌≡◌, ◌≢◌, ◌∙◌, ap, refl, ℕ, zero, suc, ◌+◌, ◌-◌, ◌*◌, ◌<◌, ◌≤◌, ◌^◌, ◌∷◌, length, get_or, drop, fold, position, true, false, not, ◌&&◌, cond, eqb, ltb, leb, ℤ, pos, negsuc, Some, None, Ok, Err, arith, slice_index}
use Rattle.std.proofs.lemmas.Bool.{and_parts, and_from, and_right, cond-false, cond-true, le-leb, le-ltb, lt-ltb, leb-true, ne_eqb, not_from_true}
use Rattle.std.proofs.lemmas.Bool.Decides.{Decides-by_and}
use Rattle.std.proofs.lemmas.Fmt.{decimal_digit, decimal_nonempty, digits_decimal, digits_value-decimal, first_decimal}
use Rattle.std.proofs.lemmas.Int.{ints}
use Rattle.std.proofs.lemmas.List.Sums.{position_or_len_is}
use Rattle.std.proofs.lemmas.Str.Parse.{IsNumeralModel, IsDigitsTest, numerals_by_fold, not_in_digits}
use Rattle.std.specs.Fmt.{decimal, signed_decimal}
use Rattle.std.specs.Int.{IsInRange}
use Rattle.std.specs.List.{list_all, position_or_len}
use Rattle.network_laws.specs.Solutions.{IsPotential}
use Rattle.units_core.specs.declared.number.NumberFault.TheVariants.{Empty, LeadingZero, Zero, TooLarge}
use Rattle.units_core.specs.Number.{is_digit, digit_on, value_of, of_first, number_of, of_amount, amount_of}
use Rattle.units_core.specs.Signed.{has_minus, plus_of, minus_of, signed_of}

digit_in : (c : ℕ) → is_digit c ≡ true → IsInRange 48 57 c
digit_in c h = let p = and_parts (leb 48 c) (leb c 57) h in (leb-true 48 c p.0, leb-true c 57 p.1)

digit_of : (c : ℕ) → IsInRange 48 57 c → is_digit c ≡ true
digit_of c r = and_from (leb 48 c) (leb c 57) (le-leb 48 c r.0) (le-leb c 57 r.1)

digits_test : IsDigitsTest (λ ds. list_all is_digit ds ≡ true)
digits_test = record {
  empty = refl;
  parts = λ c cs h. (let p = and_parts (is_digit c) (list_all is_digit cs) h in (digit_in c p.0, p.1));
  more = λ c cs r h. and_from (is_digit c) (list_all is_digit cs) (digit_of c r) h;
}

pub own : IsNumeralModel (λ ds. list_all is_digit ds ≡ true) value_of
own = numerals_by_fold (λ ds. list_all is_digit ds ≡ true) digits_test (fold digit_on) (record { empty = λ n. refl; more = λ n c cs r. (let e : 10 * n + (c - 48) ≡ n * 10 + (c - 48) = omega arith in ap (λ m. fold digit_on m cs) e) })

all_digits : (n : ℕ) → n < 2 ^ 64 → (k : ℕ) → k < length (decimal n) → is_digit (get_or (decimal n) k 0) ≡ true
all_digits n small k l =
    (Decides-by_and is_digit (λ b. is_digit b ≡ true) (list_all is_digit) (λ b. ((λ e. e), (λ e. e))) refl (λ _ _. refl) (decimal n)).0 (digits_decimal own n small) k 0 l

no_other : (n : ℕ) → n < 2 ^ 64 → position (λ c. not (is_digit c)) (decimal n) ≡ None
no_other n small =
    let text = decimal n in
    let end : position_or_len (λ c. not (is_digit c)) text ≡ length text =
    position_or_len_is (λ c. not (is_digit c)) text (length text) 0 (omega arith) (λ k l. not_from_true (is_digit (get_or text k 0)) (all_digits n small k l)) (λ l. absurd (omega arith)) in
    ap (λ k. cond (ltb k (length text)) (Some k) None) end ∙ cond-false (ltb (length text) (length text)) (Some (length text)) None (le-ltb (length text) (length text) (omega arith))

no_zero : (n : ℕ) → n < 2 ^ 64 → (ltb 1 (length (decimal n)) && eqb (slice_index (decimal n) 0) 48) ≡ false
no_zero zero small = ap (λ text. ltb 1 (length text) && eqb (slice_index text 0) 48) (decimal_digit 0 (omega arith))
no_zero (suc n) small =
    and_right (ltb 1 (length (decimal (suc n)))) (eqb (slice_index (decimal (suc n)) 0) 48) (ne_eqb (get_or (decimal (suc n)) 0 0) 48 (λ e. omega (arith, first_decimal (suc n) (omega arith) small)))

-- a number up to the most is read as itself
pub number_back : (n most : ℕ) → n < 2 ^ 64 → n ≤ most → number_of (decimal n) most ≡ Ok n
number_back n most small within =
    let text = decimal n in
    let some : eqb (length text) 0 ≡ false = ne_eqb (length text) 0 (λ e. omega (arith, decimal_nonempty n small)) in
    let value : value_of text ≡ n = digits_value-decimal own n small in
    cond-false (eqb (length text) 0) (Err Empty) (of_first (position (λ c. not (is_digit c)) text) text most) some
    ∙ ap (λ at. of_first at text most) (no_other n small)
    ∙ cond-false (ltb 1 (length text) && eqb (slice_index text 0) 48) (Err LeadingZero) (cond (ltb most (value_of text)) (Err TooLarge) (Ok (value_of text))) (no_zero n small)
    ∙ ap (λ v. cond (ltb most v) (Err TooLarge) (Ok v)) value
    ∙ cond-false (ltb most n) (Err TooLarge) (Ok n) (le-ltb most n within)

pub amount_back : (n : ℕ) → 1 ≤ n → n ≤ 10 ^ 18 → amount_of (decimal n) ≡ Ok n
amount_back n least most =
    ap of_amount (number_back n 1000000000000000000 (omega arith) (omega arith)) ∙ cond-false (eqb n 0) (Err Zero) (Ok n) (ne_eqb n 0 (λ e. omega arith))

-- how far a number is from 0
abbrev size : ℤ → ℕ
size (pos n) = n
size (negsuc n) = suc n

pub potential_small : (z : ℤ) → IsPotential z → size z ≤ 1000000
potential_small (pos n) h = omega (arith, ints, h.most)
potential_small (negsuc n) h = omega (arith, ints, h.least)

no_minus : (n : ℕ) → n < 2 ^ 64 → has_minus (decimal n) ≡ false
no_minus n small =
    let text = decimal n in
    let other : get_or text 0 0 ≢ 45 = not_in_digits own text 45 (digits_decimal own n small) (λ r. omega arith) 0 (decimal_nonempty n small) in
    and_right (ltb 0 (length text)) (eqb (slice_index text 0) 45) (ne_eqb (get_or text 0 0) 45 other)

-- a potential is read as itself
pub signed_back : (z : ℤ) → IsPotential z → signed_of (signed_decimal z) ≡ Ok z
signed_back (pos n) h =
    let small : n ≤ 1000000 = potential_small (pos n) h in
    cond-false (has_minus (decimal n)) (minus_of (number_of (drop 1 (decimal n)) 1000000)) (plus_of (number_of (decimal n) 1000000)) (no_minus n (omega arith))
    ∙ ap plus_of (number_back n 1000000 (omega arith) small)
signed_back (negsuc n) h =
    let small : suc n ≤ 1000000 = potential_small (negsuc n) h in
    let text = decimal (suc n) in
    let minus : has_minus (45 ∷ text) ≡ true = and_from (ltb 0 (length (45 ∷ text))) (eqb 45 45) (lt-ltb 0 (length (45 ∷ text)) (omega arith)) refl in
    cond-true (has_minus (45 ∷ text)) (minus_of (number_of text 1000000)) (plus_of (number_of (45 ∷ text) 1000000)) minus
    ∙ ap minus_of (number_back (suc n) 1000000 (omega arith) small)
    ∙ cond-false (eqb (suc n) 0) (Err Zero) (Ok (negsuc n)) (ne_eqb (suc n) 0 (λ e. omega arith))
