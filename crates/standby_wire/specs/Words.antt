-- Words, numbers, names and days, read byte by byte.
use Rattle.std.specs.Prelude.{ℕ, ◌-◌, ◌==◌, nat_lt, List, [], ◌∷◌, length, take, drop, Option, Some, None, Ok, Err, if◌then◌else◌}
use Rattle.units_core.specs.Name.{is_name_byte}
use Rattle.units_core.specs.Number.{is_digit, digit_on}
use Rattle.units_core.specs.Day.{DayParts, day_of}
use Rattle.standby_wire.specs.Seen.{Seen, chosen}
use Rattle.standby_wire.specs.declared.stop.Stop.TheVariants.{More, Bad}

-- these bytes
unfoldable pub word : List ℕ → List ℕ → Seen (Unit {0})
word [] input = Ok (tt, input)
word (byte ∷ bytes) [] = Err More
word (byte ∷ bytes) (first ∷ input) = if first == byte then word bytes input else Err Bad

-- nothing
abbrev pub nothing : List ℕ → Seen (Unit {0})
nothing input = Ok (tt, input)

-- where these bytes come, one form; else another
abbrev pub if_word : {A : Type 0} → List ℕ → (List ℕ → Seen A) → (List ℕ → Seen A) → List ℕ → Seen A
if_word text behind other input = chosen (word text input) behind (other input)

-- a digit more behind those of this number, if one comes; no number has a zero in front, or is over the most
unfoldable pub digits : ℕ → ℕ → List ℕ → Seen ℕ
digits most value [] = Err More
digits most value (byte ∷ input) =
    if is_digit byte
    then (if value == 0 then Err Bad else (if nat_lt most (digit_on value byte) then Err Bad else digits most (digit_on value byte) input))
    else Ok (value, byte ∷ input)

-- a number of at most so many, up to a byte that is no digit
unfoldable pub number : ℕ → List ℕ → Seen ℕ
number most [] = Err More
number most (byte ∷ input) =
    if is_digit byte then (if nat_lt most (byte - 48) then Err Bad else digits most (byte - 48) input) else Err Bad

-- at most so many bytes more of a name, up to a byte that no name has
unfoldable pub name_bytes : ℕ → List ℕ → Seen (Unit {0})
name_bytes room [] = Err More
name_bytes room (byte ∷ input) =
    if is_name_byte byte then (if room == 0 then Err Bad else name_bytes (room - 1) input) else Ok (tt, byte ∷ input)

-- a name, up to a byte that no name has
unfoldable pub name : List ℕ → Seen (Unit {0})
name [] = Err More
name (byte ∷ input) = if is_name_byte byte then name_bytes 15 input else Err Bad

abbrev pub day_or_bad : Option DayParts → List ℕ → Seen (Unit {0})
day_or_bad None rest = Err Bad
day_or_bad (Some day) rest = Ok (tt, rest)

-- a day; it is judged when its ten bytes are there
unfoldable pub day : List ℕ → Seen (Unit {0})
day input = if nat_lt (length input) 10 then Err More else day_or_bad (day_of (take 10 input)) (drop 10 input)
