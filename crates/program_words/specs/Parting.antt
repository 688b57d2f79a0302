-- The words behind a form's name: the plain ones, and the options.
use Rattle.std.specs.Prelude.{ℕ, ◌+◌, ◌==◌, not, ◌&&◌, ◌||◌, Bool, true, false, List, [], ◌∷◌, ◌++◌, length, map, take, drop, fold, position, Option, Some, None, option_map, option_and_then, is_none, Result, Ok, Err, codes, bytes_eq, if◌then◌else◌}
use Rattle.units_core.specs.Day.{DayParts, day_of}
use Rattle.units_core.specs.Number.{number_of}
use Rattle.units_core.specs.declared.number.NumberFault.{NumberFault}
use Rattle.program_words.specs.declared.options.OptionName.{OptionName}
use Rattle.program_words.specs.declared.options.OptionName.TheVariants.{Workers, Seats, Connections, Idle, Matured}
use Rattle.program_words.specs.declared.options.Options.{Options as ReadOptions}
use Rattle.program_words.specs.declared.parting.Parts.{Parts as ReadParts}
use Rattle.program_words.specs.declared.options.TheConstants.{MOST_IDLE}
use Rattle.units_core.specs.declared.limits.TheConstants.{MOST_CONNECTIONS, MOST_SEATS, MOST_WORKERS}

-- the options that are given, each with its number or its day, and whether those are which have no value
pub record Options : Type 0 where
  pub workers : Option ℕ
  pub seats : Option ℕ
  pub connections : Option ℕ
  pub idle : Option ℕ
  pub matured : Option DayParts
  pub compare : Bool
  pub cancel : Bool

-- Some words, parted: the plain ones and the options. A name may wait for its value, which is the next word; where the options have ended, all others are plain.
pub record Parts : Type 0 where
  pub plain : List (List ℕ)
  pub options : Options
  pub waiting : Option OptionName
  pub ended : Bool

-- no words
abbrev pub no_parts : Parts
no_parts = record { plain = []; options = record { workers = None; seats = None; connections = None; idle = None; matured = None; compare = false; cancel = false }; waiting = None; ended = false }

-- a number that was read, but 0
abbrev pub of_count : Result ℕ NumberFault → Option ℕ
of_count (Ok n) = if n == 0 then None else Some n
of_count (Err fault) = None

-- the number from 1 to most that a text writes
abbrev pub count_of : ℕ → List ℕ → Option ℕ
count_of most text = of_count (number_of text most)

abbrev pub most_workers : ℕ
most_workers = MOST_WORKERS

abbrev pub most_seats : ℕ
most_seats = MOST_SEATS

abbrev pub most_connections : ℕ
most_connections = MOST_CONNECTIONS

abbrev pub most_idle : ℕ
most_idle = MOST_IDLE

-- a value for an option; none where it had one
abbrev pub once : {A : Type 0} → Option A → Option A → Option A
once None value = value
once (Some before) value = None

-- the options with this one, which they have not had, and whose value is a number in its range, or a day
abbrev pub with_option : Options → OptionName → List ℕ → Option Options
with_option options Workers value = option_map (λ n. record options { workers = Some n }) (once options.workers (count_of most_workers value))
with_option options Seats value = option_map (λ n. record options { seats = Some n }) (once options.seats (count_of most_seats value))
with_option options Connections value = option_map (λ n. record options { connections = Some n }) (once options.connections (count_of most_connections value))
with_option options Idle value = option_map (λ n. record options { idle = Some n }) (once options.idle (count_of most_idle value))
with_option options Matured value = option_map (λ d. record options { matured = Some d }) (once options.matured (day_of value))

abbrev pub option_word : List ℕ → Option OptionName
option_word word =
    if bytes_eq word (codes "--workers") then Some Workers
    else (if bytes_eq word (codes "--seats") then Some Seats
    else (if bytes_eq word (codes "--connections") then Some Connections
    else (if bytes_eq word (codes "--idle") then Some Idle
    else (if bytes_eq word (codes "--matured") then Some Matured else None))))

-- whether a word begins with a dash and has more behind it
abbrev pub is_dashed : List ℕ → Bool
is_dashed [] = false
is_dashed (byte ∷ bytes) = (byte == 45) && not (length bytes == 0)

-- how many plain words a form has at the most
abbrev pub most_plain : ℕ
most_plain = 4

abbrev pub with_plain : Parts → List ℕ → Option Parts
with_plain parts word = if length parts.plain == most_plain then None else Some (record parts { plain = parts.plain ++ word ∷ [] })

-- the value of this option; none where it is no option
abbrev pub with_value : Parts → Option OptionName → List ℕ → Option Parts
with_value parts name value =
    option_and_then (λ name. option_map (λ options. record parts { options = options; waiting = None }) (with_option parts.options name value)) name

-- the option by which a standby compares; none where it was given
abbrev pub with_compare : Parts → Option Parts
with_compare parts = if parts.options.compare then None else Some (record parts { options = record parts.options { compare = true } })

-- the option by which a roll cancels; none where it was given
abbrev pub with_cancel : Parts → Option Parts
with_cancel parts = if parts.options.cancel then None else Some (record parts { options = record parts.options { cancel = true } })

-- `--compare`, `--cancel`, or `--name`, which waits for its value
abbrev pub with_name : Parts → List ℕ → Option Parts
with_name parts word =
    if bytes_eq word (codes "--compare") then with_compare parts
    else (if bytes_eq word (codes "--cancel") then with_cancel parts
    else option_map (λ name. record parts { waiting = Some name }) (option_word word))

-- a word with dashes that are an option's: `--name=V`, or without a value
abbrev pub with_dashed : Parts → List ℕ → Option ℕ → Option Parts
with_dashed parts word (Some equals) = with_value parts (option_word (take equals word)) (drop (equals + 1) word)
with_dashed parts word None = with_name parts word

-- a word that is no value
abbrev pub with_next : Parts → List ℕ → Option Parts
with_next parts word =
    if parts.ended || not (is_dashed word) then with_plain parts word
    else (if bytes_eq word (codes "--") then Some (record parts { ended = true })
    else with_dashed parts word (position (λ byte. byte == 61) word))

-- one more word; none where it can't stand here
abbrev pub with_word : Parts → Option OptionName → List ℕ → Option Parts
with_word parts (Some name) word = with_value parts (Some name) word
with_word parts None word = with_next parts word

-- one more word behind those that are parted so far
abbrev pub parted_with : Option Parts → List ℕ → Option Parts
parted_with so_far word = option_and_then (λ parts. with_word parts parts.waiting word) so_far

-- no name waits for its value
abbrev pub has_values : Parts → Option Parts
has_values parts = if is_none parts.waiting then Some parts else None

-- the words, parted; none where one can't stand at its place, or the last is a name that waits for its value
abbrev pub parts_of : List (List ℕ) → Option Parts
parts_of words = option_and_then has_values (fold parted_with (Some no_parts) words)

-- the options of the code's
abbrev pub read_options : ReadOptions → Options
read_options o = record { workers = option_map (λ count. count.value) o.workers; seats = option_map (λ count. count.value) o.seats; connections = o.connections; idle = o.idle; matured = o.matured; compare = o.compare; cancel = o.cancel }

-- the parts of the code's
abbrev pub read_parts : ReadParts → Parts
read_parts parts = record { plain = map (λ word. word.now) parts.plain.items; options = read_options parts.options; waiting = parts.waiting; ended = parts.ended }
