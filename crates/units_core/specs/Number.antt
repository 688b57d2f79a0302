-- Whole numbers and amounts, as they are written in digits.
use Rattle.std.specs.Prelude.{ℕ, ◌+◌, ◌-◌, ◌*◌, ◌==◌, ◌&&◌, not, nat_le, nat_lt, Bool, List, length, fold, position, slice_index, Option, Some, None, Result, Ok, Err, if◌then◌else◌}
use Rattle.units_core.specs.declared.number.NumberFault.{NumberFault}
use Rattle.units_core.specs.declared.number.NumberFault.TheVariants.{Empty, NotDigit, LeadingZero, Zero, TooLarge}
use Rattle.units_core.specs.declared.limits.TheConstants.{MOST_GROSS}

-- a byte from '0' to '9'
abbrev pub is_digit : ℕ → Bool
is_digit c = nat_le 48 c && nat_le c 57

-- a number with one more digit behind it
abbrev pub digit_on : ℕ → ℕ → ℕ
digit_on n c = 10 * n + (c - 48)

-- the number that digits write
abbrev pub value_of : List ℕ → ℕ
value_of text = fold digit_on 0 text

-- what is read of one or more digits
abbrev pub of_digits : List ℕ → ℕ → Result ℕ NumberFault
of_digits text most =
    if nat_lt 1 (length text) && (slice_index text 0 == 48) then Err LeadingZero
    else (if nat_lt most (value_of text) then Err TooLarge else Ok (value_of text))

-- what is read of a text that is not empty, by the place of the first byte that is no digit
abbrev pub of_first : Option ℕ → List ℕ → ℕ → Result ℕ NumberFault
of_first (Some at) text most = Err (NotDigit at)
of_first None text most = of_digits text most

-- the number up to `most` that a text writes, or the text's first fault
abbrev pub number_of : List ℕ → ℕ → Result ℕ NumberFault
number_of text most =
    if length text == 0 then Err Empty else of_first (position (λ c. not (is_digit c)) text) text most

-- a number from 1 to 10^18
abbrev pub is_amount : ℕ → Bool
is_amount n = nat_le 1 n && nat_le n MOST_GROSS

-- what was read, with 0 refused
abbrev pub of_amount : Result ℕ NumberFault → Result ℕ NumberFault
of_amount (Ok n) = if n == 0 then Err Zero else Ok n
of_amount (Err fault) = Err fault

-- the amount that a text writes, or the text's first fault
abbrev pub amount_of : List ℕ → Result ℕ NumberFault
amount_of text = of_amount (number_of text MOST_GROSS)
