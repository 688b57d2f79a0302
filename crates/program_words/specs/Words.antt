-- The words that the program is called with, and what they ask for.
use Rattle.std.specs.Prelude.{ℕ, ◌&&◌, not, Bool, List, [], ◌∷◌, Option, Some, None, option_map, option_and_then, unwrap_or, is_none, codes, bytes_eq, if◌then◌else◌}
use Rattle.units_core.specs.Day.{DayParts}
use Rattle.units_core.specs.Name.{is_name}
use Rattle.command_types.specs.declared.cycle.Mode.{Mode}
use Rattle.command_types.specs.Grammar.{mode_word}
use Rattle.program_words.specs.Parting.{Options, Parts, most_connections, count_of, parts_of}
use Rattle.program_words.specs.declared.forms.MarketFiles.{MarketFiles}
use Rattle.program_words.specs.declared.forms.StandbyWords.{StandbyWords}
use Rattle.program_words.specs.declared.forms.Form.{Form as ReadForm}
use Rattle.program_words.specs.declared.forms.Form.TheVariants as read
use Rattle.units_core.specs.declared.limits.TheConstants.{MOST_NUMBER}

-- the names of a market's two files, and the mode in which it is compressed
pub record Market : Type 0 where
  pub roster : List ℕ
  pub trades : List ℕ
  pub mode : Mode

-- the numbers of a service: how many seats serve, how many connections each of them at most, how many workers solve for a seat, and for how many seconds a connection may be silent, none where it may be without end
pub record ServiceNumbers : Type 0 where
  pub seats : ℕ
  pub connections : ℕ
  pub workers : ℕ
  pub idle : Option ℕ

-- a standby: the names of its two files, the name and the key with which it greets its primary, and whether it first compares its last entry
pub record Standby : Type 0 where
  pub roster : List ℕ
  pub journal : List ℕ
  pub name : List ℕ
  pub key : List ℕ
  pub compare : Bool

-- what the program is to do, with the names of its files and the numbers of its options
pub data Form : Type 0 where
  Script : (roster journal : List ℕ) (workers : ℕ) → Form
  Serve : (roster journal address : List ℕ) (numbers : ServiceNumbers) → Form
  Check : (market : Market) (proposal : List ℕ) → Form
  Solve : (market : Market) (workers : ℕ) → Form
  Gen : (number workers : ℕ) → Form
  Replay : (roster journal : List ℕ) → Form
  Roll : (roster journal new_roster : List ℕ) (matured : Option DayParts) (cancel : Bool) → Form
  Follow : (standby : Standby) → Form

-- the numbers where the option is not given
abbrev pub workers_of : Options → ℕ
workers_of options = unwrap_or options.workers 4

abbrev pub seats_of : Options → ℕ
seats_of options = unwrap_or options.seats 4

abbrev pub connections_of : Options → ℕ
connections_of options = unwrap_or options.connections most_connections

abbrev pub numbers_of : Options → ServiceNumbers
numbers_of options = record { seats = seats_of options; connections = connections_of options; workers = workers_of options; idle = options.idle }

-- no option of a service alone is given
abbrev pub has_no_service : Options → Bool
has_no_service options = (is_none options.seats && is_none options.connections) && is_none options.idle

-- no option of a roll or of a standby is given
abbrev pub has_no_other : Options → Bool
has_no_other options = (is_none options.matured && not options.compare) && not options.cancel

-- no option is given, but perhaps the workers
abbrev pub has_workers_alone : Options → Bool
has_workers_alone options = has_no_other options && has_no_service options

-- no option is given, but perhaps those of a roll
abbrev pub has_roll_alone : Options → Bool
has_roll_alone options = (is_none options.workers && not options.compare) && has_no_service options

-- no option is given, but perhaps that of a standby
abbrev pub has_compare_alone : Options → Bool
has_compare_alone options = ((is_none options.workers && is_none options.matured) && not options.cancel) && has_no_service options

abbrev pub has_none : Options → Bool
has_none options = is_none options.workers && has_workers_alone options

-- ROSTER TRADES MODE; none where the mode is none
abbrev pub market_of : List ℕ → List ℕ → List ℕ → Option Market
market_of roster trades mode = option_map (λ mode. record { roster = roster; trades = trades; mode = mode }) (mode_word mode)

-- `script ROSTER JOURNAL [--workers W]`
abbrev pub script_of : Options → List (List ℕ) → Option Form
script_of options (roster ∷ journal ∷ []) = if has_workers_alone options then Some (Form.Script roster journal (workers_of options)) else None
script_of options plain = None

-- `serve ROSTER JOURNAL ADDRESS [--seats N] [--connections C] [--workers W] [--idle SECONDS]`
abbrev pub serve_of : Options → List (List ℕ) → Option Form
serve_of options (roster ∷ journal ∷ address ∷ []) = if has_no_other options then Some (Form.Serve roster journal address (numbers_of options)) else None
serve_of options plain = None

-- `check ROSTER TRADES MODE PROPOSAL`
abbrev pub check_of : Options → List (List ℕ) → Option Form
check_of options (roster ∷ trades ∷ mode ∷ proposal ∷ []) =
    if has_none options then option_map (λ market. Form.Check market proposal) (market_of roster trades mode) else None
check_of options plain = None

-- `solve ROSTER TRADES MODE [--workers W]`
abbrev pub solve_of : Options → List (List ℕ) → Option Form
solve_of options (roster ∷ trades ∷ mode ∷ []) =
    if has_workers_alone options then option_map (λ market. Form.Solve market (workers_of options)) (market_of roster trades mode) else None
solve_of options plain = None

-- the most that a market's number may be
abbrev pub most_number : ℕ
most_number = MOST_NUMBER

-- `gen NUMBER [--workers W]`
abbrev pub gen_of : Options → List (List ℕ) → Option Form
gen_of options (number ∷ []) =
    if has_workers_alone options then option_map (λ n. Form.Gen n (workers_of options)) (count_of most_number number) else None
gen_of options plain = None

-- `replay ROSTER JOURNAL`
abbrev pub replay_of : Options → List (List ℕ) → Option Form
replay_of options (roster ∷ journal ∷ []) = if has_none options then Some (Form.Replay roster journal) else None
replay_of options plain = None

-- `roll ROSTER JOURNAL NEW-ROSTER [--matured DAY] [--cancel]`
abbrev pub roll_of : Options → List (List ℕ) → Option Form
roll_of options (roster ∷ journal ∷ new_roster ∷ []) =
    if has_roll_alone options then Some (Form.Roll roster journal new_roster options.matured options.cancel) else None
roll_of options plain = None

-- a standby of these words; none where its name or its key is no name
abbrev pub standby_of : Bool → List ℕ → List ℕ → List ℕ → List ℕ → Option Form
standby_of compare roster journal name key =
    if is_name name && is_name key then Some (Form.Follow (record { roster = roster; journal = journal; name = name; key = key; compare = compare })) else None

-- `follow ROSTER JOURNAL NAME KEY [--compare]`
abbrev pub follow_of : Options → List (List ℕ) → Option Form
follow_of options (roster ∷ journal ∷ name ∷ key ∷ []) =
    if has_compare_alone options then standby_of options.compare roster journal name key else None
follow_of options plain = None

-- the form of this name, with these words behind it
abbrev pub form_named : List ℕ → Parts → Option Form
form_named name parts =
    if bytes_eq name (codes "script") then script_of parts.options parts.plain
    else (if bytes_eq name (codes "serve") then serve_of parts.options parts.plain
    else (if bytes_eq name (codes "check") then check_of parts.options parts.plain
    else (if bytes_eq name (codes "solve") then solve_of parts.options parts.plain
    else (if bytes_eq name (codes "gen") then gen_of parts.options parts.plain
    else (if bytes_eq name (codes "replay") then replay_of parts.options parts.plain
    else (if bytes_eq name (codes "roll") then roll_of parts.options parts.plain
    else (if bytes_eq name (codes "follow") then follow_of parts.options parts.plain
    else None)))))))

-- what the words ask for; none where they are out of form
abbrev pub form_of : List (List ℕ) → Option Form
form_of [] = None
form_of (name ∷ words) = option_and_then (form_named name) (parts_of words)

-- the idle time of a listener behind a form: the one that a service is given, and what it was before where the form is no service
abbrev pub idle_after : Option Form → Option ℕ → Option ℕ
idle_after None before = before
idle_after (Some (Form.Serve roster journal address numbers)) before = numbers.idle
idle_after (Some other) before = before

-- the market of the code's words
abbrev pub read_market : MarketFiles → Market
read_market market = record { roster = market.roster.now; trades = market.trades.now; mode = market.mode }

-- the standby of the code's words
abbrev pub read_standby : StandbyWords → Standby
read_standby standby = record { roster = standby.roster.now; journal = standby.journal.now; name = standby.name; key = standby.key; compare = standby.compare }

-- the form of the code's words
abbrev pub read_form : ReadForm → Form
read_form (read.Script words) = Form.Script words.roster.now words.journal.now words.workers.value
read_form (read.Serve words) =
    Form.Serve words.roster.now words.journal.now words.address.now (record { seats = words.seats.value; connections = words.connections; workers = words.workers.value; idle = words.idle })
read_form (read.Check words) = Form.Check (read_market words.market) words.proposal.now
read_form (read.Solve market workers) = Form.Solve (read_market market) workers.value
read_form (read.Gen number workers) = Form.Gen number workers.value
read_form (read.Replay words) = Form.Replay words.roster.now words.journal.now
read_form (read.Roll words) = Form.Roll words.roster.now words.journal.now words.new_roster.now words.matured words.cancel
read_form (read.Follow standby) = Form.Follow (read_standby standby)
