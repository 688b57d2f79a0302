-- Civil days, and their texts YYYY-MM-DD.
use Rattle.std.specs.Prelude.{ℕ, ◌+◌, ◌-◌, ◌*◌, ◌/◌, ◌%◌, [], ◌∷◌, ◌++◌, ◌==◌, ◌&&◌, ◌||◌, nat_le, nat_lt, pos, Bool, List, length, slice_index, Option, Some, None, if◌then◌else◌}
use Rattle.jiff.specs.Words.{days_in_month}
use Rattle.units_core.specs.Number.{is_digit}

-- a day by its numbers
pub record DayParts : Type 0 where
  pub year : ℕ
  pub month : ℕ
  pub day : ℕ

-- the digit at a place of a text
abbrev pub digit_at : List ℕ → ℕ → ℕ
digit_at text k = slice_index text k - 48

-- the calendar has this day
abbrev pub is_civil : DayParts → Bool
is_civil d = nat_le 1 d.month && nat_le d.month 12 && nat_le 1 d.day && nat_le d.day (days_in_month (pos d.year) d.month)

-- the day of these numbers, of the years 0000 to 9999
abbrev pub day_numbered : ℕ → ℕ → ℕ → Option DayParts
day_numbered year month day =
    if nat_le year 9999 && is_civil (record { year = year; month = month; day = day }) then Some (record { year = year; month = month; day = day })
    else None

-- four digits, a dash, two digits, a dash, two digits
abbrev pub is_day_form : List ℕ → Bool
is_day_form text =
    (length text == 10) && is_digit (slice_index text 0) && is_digit (slice_index text 1) && is_digit (slice_index text 2)
    && is_digit (slice_index text 3) && (slice_index text 4 == 45) && is_digit (slice_index text 5) && is_digit (slice_index text 6)
    && (slice_index text 7 == 45) && is_digit (slice_index text 8) && is_digit (slice_index text 9)

-- the numbers that such a text writes
abbrev pub day_parts : List ℕ → DayParts
day_parts text = record {
  year = 1000 * digit_at text 0 + 100 * digit_at text 1 + 10 * digit_at text 2 + digit_at text 3;
  month = 10 * digit_at text 5 + digit_at text 6;
  day = 10 * digit_at text 8 + digit_at text 9;
}

-- the day that a text names
abbrev pub day_of : List ℕ → Option DayParts
day_of text = if is_day_form text && is_civil (day_parts text) then Some (day_parts text) else None

-- a number below 100 in two digits
abbrev pub two_digits_of : ℕ → List ℕ
two_digits_of n = (48 + n / 10) ∷ (48 + n % 10) ∷ []

-- the text of a day
abbrev pub day_text : DayParts → List ℕ
day_text d =
    two_digits_of (d.year / 100) ++ two_digits_of (d.year % 100) ++ 45 ∷ [] ++ two_digits_of d.month ++ 45 ∷ [] ++ two_digits_of d.day

-- one day comes before another
abbrev pub is_before : DayParts → DayParts → Bool
is_before a b =
    nat_lt a.year b.year
    || ((a.year == b.year) && (nat_lt a.month b.month || ((a.month == b.month) && nat_lt a.day b.day)))
