-- Amounts of a few digits.
use Rattle.std.proofs.Common.{◌≡◌, ◌≢◌, ◌∙◌, ap, ℕ, ◌+◌, ◌*◌, ◌^◌, ◌<◌, ◌≤◌, ◌==◌, nat_lt, true, false, not, ◌&&◌, List, length, take, get_or, position, None, Ok, arith, refl, IfSome, Some, if◌then◌else◌, ⊎_elim}
use Rattle.std.proofs.Math.Bool.{and-false}
use Rattle.std.proofs.Math.Nat.{pow-le-pow_right}
use Rattle.std.proofs.lemmas.Bool.{le-ltb, ne_eqb, cases_Bool}
use Rattle.std.proofs.lemmas.Bool.Decides.{nat_tests}
use Rattle.std.proofs.lemmas.Grind.{pow_more}
use Rattle.std.proofs.lemmas.List.{take_all}
use Rattle.std.proofs.lemmas.List.Sums.{position_or_len_is}
use Rattle.units_core.specs.Number.{is_digit, value_of, is_amount, amount_of}
use Rattle.units_core.specs.declared.limits.TheConstants.{MOST_GROSS}

-- a number of so few digits has room for one more
pub room : (v i n : ℕ) → i < n → n ≤ 18 → v < 10 ^ i → v * 10 + 9 < 10 ^ 18
room v i n inside few small =
    let most : 10 ^ (i + 1) ≤ 10 ^ 18 = pow-le-pow_right (omega arith) {j = 18} (omega arith) in
    let next : 10 ^ (i + 1) ≡ 10 ^ i * 10 = pow_more 10 i in
    omega arith

no_other : (text : List ℕ) → ((k : ℕ) → k < length text → is_digit (get_or text k 0) ≡ true) → position (λ c. not (is_digit c)) text ≡ None
no_other text digits =
    let all = position_or_len_is (λ c. not (is_digit c)) text (length text) 0 (omega arith) (λ k lt. ap not (digits k lt)) (λ lt. absurd (omega arith)) in
    rw (all, le-ltb (length text) (length text) (omega arith)) refl

amount_read : (text : List ℕ) (v : ℕ) → 0 < length text → get_or text 0 0 ≢ 48 → ((k : ℕ) → k < length text → is_digit (get_or text k 0) ≡ true)
    → v ≡ value_of text → is_amount v ≡ true → amount_of text ≡ Ok v
amount_read text v some first digits value good =
    let within : (1 ≤ v) × (v ≤ MOST_GROSS) = grind (arith, nat_tests) in
    let more : (length text == 0) ≡ false = ne_eqb (length text) 0 (omega arith) in
    let high : (get_or text 0 0 == 48) ≡ false = ne_eqb (get_or text 0 0) 48 first in
    let small : nat_lt MOST_GROSS v ≡ false = le-ltb MOST_GROSS v within.1 in
    let above : (v == 0) ≡ false = ne_eqb v 0 (omega (arith, within.0)) in
    let low : (nat_lt 1 (length text) && (get_or text 0 0 == 48)) ≡ false = rw high (and-false _) in
    rw (more, no_other text digits, low, ← value, small, above) refl

-- all digits were read
pub amount_if : (text : List ℕ) (v i : ℕ) → 0 < length text → length text ≤ i → get_or text 0 0 ≢ 48 → ((k : ℕ) → k < i → is_digit (get_or text k 0) ≡ true)
    → v ≡ value_of (take i text) → IfSome (if is_amount v then Some v else None) (λ amount. amount_of text ≡ Ok amount)
amount_if text v i some all first digits value =
    let whole : v ≡ value_of text = value ∙ ap value_of (take_all i text all) in
    ⊎_elim (λ (t : is_amount v ≡ true). rw t (amount_read text v some first (λ k lt. digits k (omega arith)) whole t))
    (λ (f : is_amount v ≡ false). rw f tt) (cases_Bool (is_amount v))
