-- The line grammar: what a line says, or the first byte at which it is not of any form.
use Rattle.std.specs.Prelude.{ℕ, ℤ, ◌+◌, ◌==◌, nat_lt, List, [], ◌∷◌, length, Option, Some, None, Result, Ok, Err, codes, if◌then◌else◌}
use Rattle.std.specs.Str.{bytes_eq}
use Rattle.units_core.specs.Name.{is_name}
use Rattle.units_core.specs.Number.{number_of, amount_of}
use Rattle.units_core.specs.Signed.{signed_of}
use Rattle.units_core.specs.Day.{DayParts, day_of}
use Rattle.units_core.specs.declared.number.NumberFault.{NumberFault}
use Rattle.command_types.specs.declared.cycle.Mode.{Mode}
use Rattle.command_types.specs.declared.cycle.Mode.TheVariants as modes
use Rattle.command_types.specs.declared.trade.Side.{Side}
use Rattle.command_types.specs.declared.trade.Side.TheVariants.{Out, In}
use Rattle.command_types.specs.declared.line.Line.{Line}
use Rattle.command_types.specs.declared.line.Line.TheVariants.{Hello, Trade, Affirm, End, Hold, Free, Tol, Nets, Statement, Freeze, Begin, Limits, Row, Pot, Post, Propose, Next, Plan, Proof, Accept, Decline, Cancel, Bye}
use Rattle.command_types.specs.Lines.{line_limit}
use Rattle.units_core.specs.declared.limits.TheConstants.{MOST_NUMBER}

-- one more byte in front of the first word
abbrev pub onto_word : ℕ → List (List ℕ) → List (List ℕ)
onto_word byte [] = (byte ∷ []) ∷ []
onto_word byte (word ∷ words) = (byte ∷ word) ∷ words

-- the words of a line, with one space between them
abbrev pub words_of : List ℕ → List (List ℕ)
words_of [] = [] ∷ []
words_of (byte ∷ bytes) = if byte == 32 then [] ∷ words_of bytes else onto_word byte (words_of bytes)

-- the words that are still to be read, the place of the first of them, and the line's length
pub record Cursor : Type 0 where
  pub words : List (List ℕ)
  pub place : ℕ
  pub size : ℕ

-- a word of one kind: its value, if the word is of the kind
abbrev pub value_or_none : {A : Type 0} → Result A NumberFault → Option A
value_or_none (Ok value) = Some value
value_or_none (Err fault) = None

-- a name
abbrev pub name_word : List ℕ → Option (List ℕ)
name_word word = if is_name word then Some word else None

-- an amount
abbrev pub amount_word : List ℕ → Option ℕ
amount_word word = value_or_none (amount_of word)

-- a number of at most 10^18
abbrev pub number_word : List ℕ → Option ℕ
number_word word = value_or_none (number_of word MOST_NUMBER)

-- a number with a sign or without one
abbrev pub signed_word : List ℕ → Option ℤ
signed_word word = value_or_none (signed_of word)

-- a day
abbrev pub day_word : List ℕ → Option DayParts
day_word word = day_of word

-- a mode: conservative, hybrid or free
abbrev pub mode_word : List ℕ → Option Mode
mode_word word =
    if bytes_eq word (codes "conservative") then Some modes.Conservative
    else if bytes_eq word (codes "hybrid") then Some modes.Hybrid
    else if bytes_eq word (codes "free") then Some modes.Free
    else None

-- a side: out or in
abbrev pub side_word : List ℕ → Option Side
side_word word = if bytes_eq word (codes "out") then Some Out else (if bytes_eq word (codes "in") then Some In else None)

-- a ceiling that was read as a number is one that is given
abbrev pub given_ceiling : Option ℕ → Option (Option ℕ)
given_ceiling None = None
given_ceiling (Some ceiling) = Some (Some ceiling)

-- a number, or '-' for none
abbrev pub ceiling_word : List ℕ → Option (Option ℕ)
ceiling_word word = if bytes_eq word (codes "-") then Some None else given_ceiling (number_word word)

-- a value, and the words behind it
pub record Taken (A : Type 0) : Type 0 where
  pub value : A
  pub rest : Cursor

-- a word that was read gives its value and the words behind it; one that could not be read is told at its place
abbrev pub taken_word : {A : Type 0} → Option A → List ℕ → List (List ℕ) → ℕ → ℕ → Result (Taken A) ℕ
taken_word None word words place size = Err place
taken_word (Some value) word words place size =
    Ok (record { value = value; rest = record { words = words; place = place + length word + 1; size = size } })

-- the first of these words is read; if there is none, that is told at the line's length
abbrev pub next_of : {A : Type 0} → (List ℕ → Option A) → List (List ℕ) → ℕ → ℕ → Result (Taken A) ℕ
next_of read [] place size = Err size
next_of read (word ∷ words) place size = taken_word (read word) word words place size

-- the next word, of a kind: a missing word is told at the line's length, and one of another form at its place
abbrev pub next : {A : Type 0} → (List ℕ → Option A) → Cursor → Result (Taken A) ℕ
next read cursor = next_of read cursor.words cursor.place cursor.size

-- what is read goes on behind a value that was taken, and ends at a fault
abbrev pub and_then : {A B : Type 0} → Result (Taken A) ℕ → (A → Cursor → Result B ℕ) → Result B ℕ
and_then (Err place) more = Err place
and_then (Ok taken) more = more taken.value taken.rest

-- the value, if no word is left; else the first of them is told at its place
abbrev pub ended_at : {A : Type 0} → A → List (List ℕ) → ℕ → Result A ℕ
ended_at value [] place = Ok value
ended_at value (word ∷ words) place = Err place

-- no further word: one too many is told at its place
abbrev pub ended : {A : Type 0} → A → Cursor → Result A ℕ
ended value cursor = ended_at value cursor.words cursor.place

-- NAME KEY
abbrev pub hello_line : Cursor → Result Line ℕ
hello_line c = and_then (next name_word c) (λ name c. and_then (next name_word c) (λ key c. ended (Hello name key) c))

-- AMOUNT DAY
abbrev pub trade_terms : List ℕ → List ℕ → List ℕ → Cursor → Result Line ℕ
trade_terms seller buyer product c =
    and_then (next amount_word c) (λ amount c. and_then (next day_word c) (λ day c. ended (Trade seller buyer product amount day) c))

-- SELLER BUYER PRODUCT AMOUNT DAY
abbrev pub trade_line : Cursor → Result Line ℕ
trade_line c =
    and_then (next name_word c) (λ seller c. and_then (next name_word c) (λ buyer c. and_then (next name_word c) (λ product c. trade_terms seller buyer product c)))

-- TRADE, a number, of a command that has this alone
abbrev pub numbered_line : (ℕ → Line) → Cursor → Result Line ℕ
numbered_line make c = and_then (next number_word c) (λ number c. ended (make number) c)

-- CYCLE VERSION
abbrev pub version_line : (ℕ → ℕ → Line) → Cursor → Result Line ℕ
version_line make c = and_then (next number_word c) (λ cycle c. and_then (next number_word c) (λ version c. ended (make cycle version) c))

-- CYCLE MODE
abbrev pub mode_line : (ℕ → Mode → Line) → Cursor → Result Line ℕ
mode_line make c = and_then (next number_word c) (λ cycle c. and_then (next mode_word c) (λ mode c. ended (make cycle mode) c))

-- PRODUCT
abbrev pub product_line : (List ℕ → Line) → Cursor → Result Line ℕ
product_line make c = and_then (next name_word c) (λ product c. ended (make product) c)

-- FLOOR CEILING
abbrev pub tolerance_levels : List ℕ → List ℕ → Side → Cursor → Result Line ℕ
tolerance_levels other product side c =
    and_then (next number_word c) (λ floor c. and_then (next ceiling_word c) (λ ceiling c. ended (Tol other product side floor ceiling) c))

-- OTHER PRODUCT SIDE FLOOR CEILING
abbrev pub tolerance_line : Cursor → Result Line ℕ
tolerance_line c =
    and_then (next name_word c) (λ other c. and_then (next name_word c) (λ product c. and_then (next side_word c) (λ side c. tolerance_levels other product side c)))

-- DAY
abbrev pub freeze_line : Cursor → Result Line ℕ
freeze_line c = and_then (next day_word c) (λ day c. ended (Freeze day) c)

-- BUYER AMOUNT
abbrev pub row_terms : List ℕ → List ℕ → Cursor → Result Line ℕ
row_terms product seller c =
    and_then (next name_word c) (λ buyer c. and_then (next amount_word c) (λ amount c. ended (Row product seller buyer amount) c))

-- PRODUCT SELLER BUYER AMOUNT
abbrev pub row_line : Cursor → Result Line ℕ
row_line c = and_then (next name_word c) (λ product c. and_then (next name_word c) (λ seller c. row_terms product seller c))

-- PRODUCT MEMBER VALUE
abbrev pub potential_line : Cursor → Result Line ℕ
potential_line c =
    and_then (next name_word c) (λ product c. and_then (next name_word c) (λ member c. and_then (next signed_word c) (λ value c. ended (Pot product member value) c)))

-- what the words behind a command's first word say
abbrev pub line_by : List ℕ → Cursor → Result Line ℕ
line_by verb c =
    if bytes_eq verb (codes "HELLO") then hello_line c
    else (if bytes_eq verb (codes "TRADE") then trade_line c
    else (if bytes_eq verb (codes "AFFIRM") then numbered_line Affirm c
    else (if bytes_eq verb (codes "END") then numbered_line End c
    else (if bytes_eq verb (codes "HOLD") then numbered_line Hold c
    else (if bytes_eq verb (codes "FREE") then numbered_line Free c
    else (if bytes_eq verb (codes "TOL") then tolerance_line c
    else (if bytes_eq verb (codes "NETS") then product_line Nets c
    else (if bytes_eq verb (codes "STATEMENT") then ended Statement c
    else (if bytes_eq verb (codes "FREEZE") then freeze_line c
    else (if bytes_eq verb (codes "BEGIN") then mode_line Begin c
    else (if bytes_eq verb (codes "LIMITS") then product_line Limits c
    else (if bytes_eq verb (codes "ROW") then row_line c
    else (if bytes_eq verb (codes "POT") then potential_line c
    else (if bytes_eq verb (codes "POST") then version_line Post c
    else (if bytes_eq verb (codes "PROPOSE") then mode_line Propose c
    else (if bytes_eq verb (codes "NEXT") then numbered_line Next c
    else (if bytes_eq verb (codes "PLAN") then numbered_line Plan c
    else (if bytes_eq verb (codes "PROOF") then numbered_line Proof c
    else (if bytes_eq verb (codes "ACCEPT") then version_line Accept c
    else (if bytes_eq verb (codes "DECLINE") then version_line Decline c
    else (if bytes_eq verb (codes "CANCEL") then numbered_line Cancel c
    else (if bytes_eq verb (codes "BYE") then ended Bye c
    else Err 0))))))))))))))))))))))

-- the first word tells the command, and the others are read behind it
abbrev pub line_of_words : ℕ → List (List ℕ) → Result Line ℕ
line_of_words size [] = Err 0
line_of_words size (verb ∷ words) = line_by verb (record { words = words; place = length verb + 1; size = size })

-- what a line says, or the first byte of the first word that is not of the form
abbrev pub line_of : List ℕ → Result Line ℕ
line_of line = line_of_words (length line) (words_of line)

-- a line that is too long can't be read
abbrev pub line_within : List ℕ → Result Line ℕ
line_within line = if nat_lt line_limit (length line) then Err line_limit else line_of line
