-- A signed number that a text writes is in the range of potentials.
use Rattle.std.proofs.Common.{◌≡◌, ℕ, ◌≤◌, ℤ, pos, neg_ℤ, Bool, true, false, cond, ◌&&◌, List, length, position, Option, Some, None, Result, Ok, Err, refl, arith, drop, not, ◌==◌, nat_lt, slice_index}
use Rattle.std.proofs.lemmas.Bool.{ltb-false}
use Rattle.std.proofs.lemmas.Int.{ints}
use Rattle.network_laws.specs.Solutions.{IsPotential}
use Rattle.units_core.specs.declared.number.NumberFault.{NumberFault}
use Rattle.units_core.specs.declared.number.NumberFault.TheVariants.{Empty, NotDigit, LeadingZero, Zero, TooLarge}
use Rattle.units_core.specs.Number.{is_digit, value_of, of_digits, of_first, number_of}
use Rattle.units_core.specs.Signed.{has_minus, plus_of, minus_of, signed_of}

-- a number was read, so it was not the fault that stood first
pub past : {A : Type 0} (b : Bool) (fault : NumberFault) (r : Result A NumberFault) (n : A) → cond b (Err fault) r ≡ Ok n → (b ≡ false) × (r ≡ Ok n)
past true fault r n h = absurd cc
past false fault r n h = (refl, h)

digits_most : (text : List ℕ) (most n : ℕ) → of_digits text most ≡ Ok n → n ≤ most
digits_most text most n h =
    let inner = past (nat_lt 1 (length text) && (slice_index text 0 == 48)) LeadingZero (cond (nat_lt most (value_of text)) (Err TooLarge) (Ok (value_of text))) n h in
    let last = past (nat_lt most (value_of text)) TooLarge (Ok (value_of text)) n inner.1 in
    let same : value_of text ≡ n = cc (last.1) in
    let within : value_of text ≤ most = ltb-false _ _ last.0 in
    omega arith

first_most : (at : Option ℕ) (text : List ℕ) (most n : ℕ) → of_first at text most ≡ Ok n → n ≤ most
first_most (Some at) text most n h = absurd cc
first_most None text most n h = digits_most text most n h

number_most : (text : List ℕ) (most n : ℕ) → number_of text most ≡ Ok n → n ≤ most
number_most text most n h =
    let first = position (λ c. not (is_digit c)) text in
    first_most first text most n (past (length text == 0) Empty (of_first first text most) n h).1

minus_range : (r : Result ℕ NumberFault) (z : ℤ) → ((n : ℕ) → r ≡ Ok n → n ≤ 1000000) → minus_of r ≡ Ok z → IsPotential z
minus_range (Ok n) z small h =
    let l : n ≤ 1000000 = small n refl in
    let same : neg_ℤ (pos n) ≡ z = cc ((past (n == 0) Zero (Ok (neg_ℤ (pos n))) z h).1) in
    record { least = omega (arith, ints); most = omega (arith, ints) }
minus_range (Err (NotDigit at)) z small h = absurd cc
minus_range (Err fault) z small h = absurd cc

plus_range : (r : Result ℕ NumberFault) (z : ℤ) → ((n : ℕ) → r ≡ Ok n → n ≤ 1000000) → plus_of r ≡ Ok z → IsPotential z
plus_range (Ok n) z small h =
    let l : n ≤ 1000000 = small n refl in
    let same : pos n ≡ z = cc in
    record { least = omega (arith, ints); most = omega (arith, ints) }
plus_range (Err fault) z small h = absurd cc

of_either : (b : Bool) (x y : Result ℤ NumberFault) (z : ℤ) → (x ≡ Ok z → IsPotential z) → (y ≡ Ok z → IsPotential z) → cond b x y ≡ Ok z → IsPotential z
of_either true x y z first second h = first h
of_either false x y z first second h = second h

-- a signed number lies between -1,000,000 and 1,000,000
pub signed_range : (text : List ℕ) (z : ℤ) → signed_of text ≡ Ok z → IsPotential z
signed_range text z h =
    let minus = number_of (drop 1 text) 1000000 in
    let plus = number_of text 1000000 in
    of_either (has_minus text) (minus_of minus) (plus_of plus) z (minus_range minus z (λ n e. number_most (drop 1 text) 1000000 n e)) (plus_range plus z (λ n e. number_most text 1000000 n e)) h
