-- The two spellings of a change: its bytes in a journal. Numbers are little-endian.
use Rattle.std.specs.Prelude.{◌≡◌, ℕ, ℤ, ◌≤◌, ◌<◌, ◌^◌, List, [], ◌∷◌, ◌++◌, length, All, Option, Some, None, unwrap_or, IfSome, IsTrue, codes}
use Rattle.std.specs.Int.{w16, w32, w64, to_le_bytes, cast_unsigned}
use Rattle.std.specs.List.{flat_map}
use Rattle.units_core.specs.Name.{is_name}
use Rattle.units_core.specs.Number.{is_amount}
use Rattle.units_core.specs.Day.{DayParts, is_civil}
use Rattle.network_laws.specs.declared.rows.Row.{Row}
use Rattle.network_laws.specs.Solutions.{SolutionData, IsSolution}
use Rattle.command_types.specs.declared.cycle.Mode.{Mode}
use Rattle.command_types.specs.declared.cycle.Mode.TheVariants as modes
use Rattle.command_types.specs.declared.moment.TheConstants.{MOST_MOMENT}
use Rattle.command_types.specs.declared.spelling.Spelling.{Spelling}
use Rattle.command_types.specs.declared.spelling.Spelling.TheVariants.{First, Second}
use Rattle.command_types.specs.declared.trade.Side.{Side}
use Rattle.command_types.specs.declared.trade.Side.TheVariants.{Out, In}
use Rattle.command_types.specs.declared.ask.Entry.{Entry}
use Rattle.command_types.specs.declared.ask.What.{What}
use Rattle.command_types.specs.declared.ask.What.TheVariants.{Trade, Affirm, End, Hold, Free, Tol, Freeze, Begin, Post, Accept, Decline, Cancel}
use Rattle.units_core.specs.declared.limits.TheConstants.{MOST_GROSS, MOST_PRODUCTS}

-- the most solutions that a change may post
abbrev pub most_solutions : ℕ
most_solutions = MOST_PRODUCTS

-- ---- the fields

-- a number in eight bytes
abbrev pub number_spelling : ℕ → List ℕ
number_spelling n = to_le_bytes w64 n

-- a byte with the name's length, and its bytes
abbrev pub name_spelling : List ℕ → List ℕ
name_spelling name = length name ∷ name

-- the year in two bytes, the month and the day in one byte each
abbrev pub day_spelling : DayParts → List ℕ
day_spelling d = to_le_bytes w16 d.year ++ d.month ∷ d.day ∷ []

-- a side in one byte
abbrev pub side_byte : Side → ℕ
side_byte Out = 0
side_byte In = 1

-- a mode in one byte
abbrev pub mode_byte : Mode → ℕ
mode_byte modes.Conservative = 0
mode_byte modes.Hybrid = 1
mode_byte modes.Free = 2

-- a byte that tells whether the ceiling is given, and the ceiling if it is
abbrev pub ceiling_spelling : Option ℕ → List ℕ
ceiling_spelling None = 0 ∷ []
ceiling_spelling (Some ceiling) = 1 ∷ number_spelling ceiling

-- seller and buyer in two bytes each, and the amount
abbrev pub row_spelling : Row → List ℕ
row_spelling row = to_le_bytes w16 row.seller ++ to_le_bytes w16 row.buyer ++ number_spelling row.amount

-- four bytes in two's complement
abbrev pub potential_spelling : ℤ → List ℕ
potential_spelling p = to_le_bytes w32 (cast_unsigned w32 p)

-- the member count in two bytes, the number of rows in four, the rows, and one potential for each member
abbrev pub solution_spelling : SolutionData → List ℕ
solution_spelling s =
    to_le_bytes w16 s.network.members ++ to_le_bytes w32 (length s.network.rows)
    ++ flat_map row_spelling s.network.rows ++ flat_map potential_spelling s.potentials

-- their number in two bytes, and the solutions
abbrev pub solutions_spelling : List SolutionData → List ℕ
solutions_spelling solutions = to_le_bytes w16 (length solutions) ++ flat_map solution_spelling solutions

-- ---- the changes

-- a change's tag, and its fields; other commands have none
abbrev pub fields_spelling : What → List ℕ
fields_spelling (Trade seller buyer product amount day) =
    1 ∷ name_spelling seller ++ name_spelling buyer ++ name_spelling product ++ number_spelling amount ++ day_spelling day
fields_spelling (Affirm trade) = 2 ∷ number_spelling trade
fields_spelling (End trade) = 3 ∷ number_spelling trade
fields_spelling (Hold trade) = 4 ∷ number_spelling trade
fields_spelling (Free trade) = 5 ∷ number_spelling trade
fields_spelling (Tol other product side floor ceiling) =
    6 ∷ name_spelling other ++ name_spelling product ++ side_byte side ∷ number_spelling floor ++ ceiling_spelling ceiling
fields_spelling (Freeze day) = 7 ∷ day_spelling day
fields_spelling (Begin cycle mode) = 8 ∷ number_spelling cycle ++ mode_byte mode ∷ []
fields_spelling (Post cycle version solutions) =
    9 ∷ number_spelling cycle ++ number_spelling version ++ solutions_spelling solutions
fields_spelling (Accept cycle version) = 10 ∷ number_spelling cycle ++ number_spelling version
fields_spelling (Decline cycle version) = 11 ∷ number_spelling cycle ++ number_spelling version
fields_spelling (Cancel cycle) = 12 ∷ number_spelling cycle
fields_spelling what = []

-- the first spelling tells no moment, the second tells it in eight bytes
abbrev pub moment_spelling : Spelling → ℕ → List ℕ
moment_spelling First moment = []
moment_spelling Second moment = number_spelling moment

-- the moment, the seat in four bytes, the party, and the change
abbrev pub spelling : Spelling → Entry → List ℕ
spelling form entry =
    moment_spelling form entry.ask.moment ++ to_le_bytes w32 entry.seat ++ name_spelling (unwrap_or entry.ask.by []) ++ fields_spelling entry.ask.what

-- the record behind which those of the second spelling stand, in a journal that begins with those of the first
abbrev pub turn : List ℕ
turn = codes "MOMENTS2"

-- ---- what has a spelling

-- how many solutions a command posts
abbrev pub posted : What → ℕ
posted (Post cycle version solutions) = length solutions
posted what = 0

-- a party is there, and has a name
abbrev pub IsParty : Option (List ℕ) → Type 0
IsParty None = ⊥
IsParty (Some name) = IsTrue (is_name name)

-- the number fits into eight bytes
abbrev pub IsNumber : ℕ → Type 0
IsNumber n = n < 2 ^ 64

-- the floor or ceiling is at most the largest gross
abbrev pub IsLevel : ℕ → Type 0
IsLevel n = n ≤ MOST_GROSS

-- the day is one of the calendar, of a year with at most four digits
abbrev pub IsDay : DayParts → Type 0
IsDay d = (d.year ≤ 9999) × IsTrue (is_civil d)

-- the fields of a change are names, amounts, days and so on; it posts at most 64 solutions
abbrev pub AreFields : What → Type 0
AreFields (Trade seller buyer product amount day) =
    IsTrue (is_name seller) × IsTrue (is_name buyer) × IsTrue (is_name product) × IsTrue (is_amount amount) × IsDay day
AreFields (Affirm trade) = IsNumber trade
AreFields (End trade) = IsNumber trade
AreFields (Hold trade) = IsNumber trade
AreFields (Free trade) = IsNumber trade
AreFields (Tol other product side floor ceiling) =
    IsTrue (is_name other) × IsTrue (is_name product) × IsLevel floor × IfSome ceiling IsLevel
AreFields (Freeze day) = IsDay day
AreFields (Begin cycle mode) = IsNumber cycle
AreFields (Post cycle version solutions) =
    IsNumber cycle × IsNumber version × (length solutions ≤ most_solutions) × All IsSolution solutions
AreFields (Accept cycle version) = IsNumber cycle × IsNumber version
AreFields (Decline cycle version) = IsNumber cycle × IsNumber version
AreFields (Cancel cycle) = IsNumber cycle
AreFields what = ⊥

-- the moment is one that the spelling tells: where it tells none, it is 0
abbrev pub IsMoment : Spelling → ℕ → Type 0
IsMoment First moment = moment ≡ 0
IsMoment Second moment = moment ≤ MOST_MOMENT

-- a change by a party, from a seat, at a moment
pub record IsChange (form : Spelling) (entry : Entry) : Type 0 where
  pub moment : IsMoment form entry.ask.moment
  pub seat : entry.seat < 2 ^ 32
  pub party : IsParty entry.ask.by
  pub fields : AreFields entry.ask.what

-- The bytes are this spelling of the change.
pub record Spells (form : Spelling) (bytes : List ℕ) (entry : Entry) : Type 0 where
  pub change : IsChange form entry
  pub same : bytes ≡ spelling form entry
