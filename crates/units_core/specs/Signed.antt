-- Signed whole numbers, as they are written in digits.
use Rattle.std.specs.Prelude.{ℕ, ℤ, pos, neg_ℤ, ◌+◌, ◌==◌, ◌&&◌, nat_lt, Bool, List, length, drop, slice_index, Result, Ok, Err, if◌then◌else◌}
use Rattle.units_core.specs.declared.number.NumberFault.{NumberFault}
use Rattle.units_core.specs.declared.number.NumberFault.TheVariants.{NotDigit, Zero}
use Rattle.units_core.specs.Number.{number_of}
use Rattle.units_core.specs.declared.limits.TheConstants.{MOST_POTENTIAL}

-- the text has a '-' in front
abbrev pub has_minus : List ℕ → Bool
has_minus text = nat_lt 0 (length text) && (slice_index text 0 == 45)

-- what was read of the digits, where they have no sign in front
abbrev pub plus_of : Result ℕ NumberFault → Result ℤ NumberFault
plus_of (Ok n) = Ok (pos n)
plus_of (Err fault) = Err fault

-- what was read of the digits, where they have a '-' in front: 0 is refused, and a place counts the '-' too
abbrev pub minus_of : Result ℕ NumberFault → Result ℤ NumberFault
minus_of (Ok n) = if n == 0 then Err Zero else Ok (neg_ℤ (pos n))
minus_of (Err (NotDigit at)) = Err (NotDigit (at + 1))
minus_of (Err fault) = Err fault

-- the number from -1,000,000 to 1,000,000 that a text writes, or the text's first fault
abbrev pub signed_of : List ℕ → Result ℤ NumberFault
signed_of text = if has_minus text then minus_of (number_of (drop 1 text) MOST_POTENTIAL) else plus_of (number_of text MOST_POTENTIAL)
