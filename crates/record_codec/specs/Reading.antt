-- Reading a record from left to right, with the first field that breaks the grammar.
use Rattle.std.specs.Prelude.{ℕ, ℤ, pos, ◌+◌, ◌-◌, zero, suc, ◌==◌, nat_lt, nat_le, not, ◌&&◌, Bool, true, false, neg_ℤ, int_le, List, [], ◌∷◌, length, take, drop, slice_index, Option, Some, None, Result, Ok, Err, if◌then◌else◌}
use Rattle.std.specs.Int.{Width, w16, w32, w64, from_le_bytes, cast_signed}
use Rattle.units_core.specs.Name.{is_name}
use Rattle.units_core.specs.Number.{is_amount}
use Rattle.units_core.specs.Day.{DayParts, day_numbered}
use Rattle.network_laws.specs.declared.rows.Row.{Row}
use Rattle.network_laws.specs.Networks.{place}
use Rattle.network_laws.specs.Solutions.{SolutionData}
use Rattle.command_types.specs.declared.cycle.Mode.{Mode}
use Rattle.command_types.specs.declared.cycle.Mode.TheVariants as modes
use Rattle.command_types.specs.declared.trade.Side.{Side}
use Rattle.command_types.specs.declared.trade.Side.TheVariants.{Out, In}
use Rattle.command_types.specs.declared.ask.Entry.{Entry}
use Rattle.command_types.specs.declared.ask.What.{What}
use Rattle.command_types.specs.declared.ask.What.TheVariants.{Trade, Affirm, End, Hold, Free, Tol, Freeze, Begin, Post, Accept, Decline, Cancel}
use Rattle.command_types.specs.declared.moment.TheConstants.{MOST_MOMENT}
use Rattle.command_types.specs.declared.spelling.Spelling.{Spelling}
use Rattle.command_types.specs.declared.spelling.Spelling.TheVariants.{First, Second}
use Rattle.command_types.specs.Spelling.{most_solutions}
use Rattle.units_core.specs.declared.limits.TheConstants.{MOST_GROSS, MOST_MEMBERS, MOST_POTENTIAL}

-- What is read of the bytes' front is a value and the bytes behind it. A field that breaks the grammar is told by how many bytes are left from its first on.
abbrev pub Read : Type 0 → Type 0
Read A = Result (A × List ℕ) ℕ

infixl 10 ◌>>=◌
abbrev pub ◌>>=◌ : {A B : Type 0} → Result A ℕ → (A → Result B ℕ) → Result B ℕ
(Ok x) >>= f = f x
(Err left) >>= f = Err left

abbrev pub kept : {A : Type 0} → Option A → ℕ → List ℕ → Read A
kept None size bytes = Err (length bytes)
kept (Some value) size bytes = Ok (value, drop size bytes)

-- a field of so many bytes, which must make a value
unfoldable pub field : {A : Type 0} → ℕ → (List ℕ → Option A) → List ℕ → Read A
field size make bytes = if nat_lt (length bytes) size then Err (length bytes) else kept (make (take size bytes)) size bytes

-- ---- fields, and what their bytes make

abbrev pub number_in : Width → List ℕ → Option ℕ
number_in w text = Some (from_le_bytes w text)

abbrev pub count_in : ℕ → List ℕ → Option ℕ
count_in most text = if nat_le (from_le_bytes w16 text) most then Some (from_le_bytes w16 text) else None

abbrev pub name_in : List ℕ → Option (List ℕ)
name_in [] = None
name_in (size ∷ name) = if is_name name then Some name else None

abbrev pub amount_in : List ℕ → Option ℕ
amount_in text = if is_amount (from_le_bytes w64 text) then Some (from_le_bytes w64 text) else None

abbrev pub level_in : List ℕ → Option ℕ
level_in text =
    if nat_le (from_le_bytes w64 text) MOST_GROSS then Some (from_le_bytes w64 text) else None

abbrev pub moment_in : List ℕ → Option ℕ
moment_in text =
    if nat_le (from_le_bytes w64 text) MOST_MOMENT then Some (from_le_bytes w64 text) else None

abbrev pub day_in : List ℕ → Option DayParts
day_in text = day_numbered (from_le_bytes w16 text) (slice_index text 2) (slice_index text 3)

abbrev pub side_in : List ℕ → Option Side
side_in text = if slice_index text 0 == 0 then Some Out else (if slice_index text 0 == 1 then Some In else None)

abbrev pub mode_in : List ℕ → Option Mode
mode_in text =
    if slice_index text 0 == 0 then Some modes.Conservative
    else if slice_index text 0 == 1 then Some modes.Hybrid
    else if slice_index text 0 == 2 then Some modes.Free
    else None

-- whether a ceiling is given
abbrev pub given_in : List ℕ → Option Bool
given_in text = if slice_index text 0 == 0 then Some false else (if slice_index text 0 == 1 then Some true else None)

abbrev pub seat_at : List ℕ → Read ℕ
seat_at bytes = field 4 (number_in w32) bytes

abbrev pub number_at : List ℕ → Read ℕ
number_at bytes = field 8 (number_in w64) bytes

-- a number of two bytes, up to `most`
abbrev pub count_at : ℕ → List ℕ → Read ℕ
count_at most bytes = field 2 (count_in most) bytes

-- the first byte is the name's length
abbrev pub name_at : List ℕ → Read (List ℕ)
name_at bytes = field (suc (slice_index bytes 0)) name_in bytes

abbrev pub amount_at : List ℕ → Read ℕ
amount_at bytes = field 8 amount_in bytes

abbrev pub level_at : List ℕ → Read ℕ
level_at bytes = field 8 level_in bytes

abbrev pub day_at : List ℕ → Read DayParts
day_at bytes = field 4 day_in bytes

abbrev pub side_at : List ℕ → Read Side
side_at bytes = field 1 side_in bytes

abbrev pub mode_at : List ℕ → Read Mode
mode_at bytes = field 1 mode_in bytes

abbrev pub given_at : List ℕ → Read Bool
given_at bytes = field 1 given_in bytes

-- ---- the rows and the potentials of a solution

-- the row that twelve bytes write
abbrev pub row_of : List ℕ → Row
row_of text = record {
  seller = from_le_bytes w16 text;
  buyer = from_le_bytes w16 (drop 2 text);
  amount = from_le_bytes w64 (drop 4 text);
}

-- two members that differ, an amount, a place from `next` on, and no more than `room`
abbrev pub is_row : ℕ → ℕ → ℕ → Row → Bool
is_row members next room row =
    nat_lt row.seller members && nat_lt row.buyer members && not (row.seller == row.buyer)
    && nat_le 1 row.amount && nat_le next (place row) && nat_le row.amount room

abbrev pub row_if : Bool → Row → Option Row
row_if true row = Some row
row_if false row = None

abbrev pub row_in : ℕ → ℕ → ℕ → List ℕ → Option Row
row_in members next room text = row_if (is_row members next room (row_of text)) (row_of text)

abbrev pub row_at : ℕ → ℕ → ℕ → List ℕ → Read Row
row_at members next room bytes = field 12 (row_in members next room) bytes

-- so many rows in rising order from `next` on, whose amounts together are at most `room`
unfoldable pub rows_at : ℕ → ℕ → ℕ → ℕ → List ℕ → Read (List Row)
rows_at zero members next room bytes = Ok ([], bytes)
rows_at (suc count) members next room bytes = do
  row ← row_at members next room bytes
  others ← rows_at count members (place row.0 + 1) (room - row.0.amount) row.1
  Ok (row.0 ∷ others.0, others.1)

abbrev pub is_potential : ℤ → Bool
is_potential p = int_le (neg_ℤ (pos MOST_POTENTIAL)) p && int_le p (pos MOST_POTENTIAL)

abbrev pub potential_if : Bool → ℤ → Option ℤ
potential_if true p = Some p
potential_if false p = None

abbrev pub potential_in : List ℕ → Option ℤ
potential_in text =
    potential_if (is_potential (cast_signed w32 (from_le_bytes w32 text))) (cast_signed w32 (from_le_bytes w32 text))

abbrev pub potential_at : List ℕ → Read ℤ
potential_at bytes = field 4 potential_in bytes

unfoldable pub potentials_at : ℕ → List ℕ → Read (List ℤ)
potentials_at zero bytes = Ok ([], bytes)
potentials_at (suc count) bytes = do
  first ← potential_at bytes
  others ← potentials_at count first.1
  Ok (first.0 ∷ others.0, others.1)

abbrev pub row_count_at : List ℕ → Read ℕ
row_count_at bytes = field 4 (number_in w32) bytes

unfoldable pub solution_at : List ℕ → Read SolutionData
solution_at bytes = do
  members ← count_at MOST_MEMBERS bytes
  count ← row_count_at members.1
  rows ← rows_at count.0 members.0 0 MOST_GROSS count.1
  potentials ← potentials_at members.0 rows.1
  Ok (record { network = record { members = members.0; rows = rows.0 }; potentials = potentials.0 }, potentials.1)

unfoldable pub solutions_at : ℕ → List ℕ → Read (List SolutionData)
solutions_at zero bytes = Ok ([], bytes)
solutions_at (suc count) bytes = do
  first ← solution_at bytes
  others ← solutions_at count first.1
  Ok (first.0 ∷ others.0, others.1)

-- ---- the fields of each change

abbrev pub ceiling_if : Bool → List ℕ → Read (Option ℕ)
ceiling_if false bytes = Ok (None, bytes)
ceiling_if true bytes = do
  ceiling ← level_at bytes
  Ok (Some ceiling.0, ceiling.1)

unfoldable pub ceiling_at : List ℕ → Read (Option ℕ)
ceiling_at bytes = do
  given ← given_at bytes
  ceiling_if given.0 given.1

unfoldable pub trade_fields : List ℕ → Read What
trade_fields bytes = do
  seller ← name_at bytes
  buyer ← name_at seller.1
  product ← name_at buyer.1
  amount ← amount_at product.1
  day ← day_at amount.1
  Ok (Trade seller.0 buyer.0 product.0 amount.0 day.0, day.1)

unfoldable pub tolerance_fields : List ℕ → Read What
tolerance_fields bytes = do
  other ← name_at bytes
  product ← name_at other.1
  side ← side_at product.1
  floor ← level_at side.1
  ceiling ← ceiling_at floor.1
  Ok (Tol other.0 product.0 side.0 floor.0 ceiling.0, ceiling.1)

unfoldable pub freeze_fields : List ℕ → Read What
freeze_fields bytes = do
  day ← day_at bytes
  Ok (Freeze day.0, day.1)

unfoldable pub begin_fields : List ℕ → Read What
begin_fields bytes = do
  cycle ← number_at bytes
  mode ← mode_at cycle.1
  Ok (Begin cycle.0 mode.0, mode.1)

-- one number
unfoldable pub numbered_fields : (ℕ → What) → List ℕ → Read What
numbered_fields make bytes = do
  number ← number_at bytes
  Ok (make number.0, number.1)

-- a cycle and a version
unfoldable pub versioned_fields : (ℕ → ℕ → What) → List ℕ → Read What
versioned_fields make bytes = do
  cycle ← number_at bytes
  version ← number_at cycle.1
  Ok (make cycle.0 version.0, version.1)

unfoldable pub post_fields : List ℕ → Read What
post_fields bytes = do
  cycle ← number_at bytes
  version ← number_at cycle.1
  count ← count_at most_solutions version.1
  solutions ← solutions_at count.0 count.1
  Ok (Post cycle.0 version.0 solutions.0, solutions.1)

-- the fields that belong to a tag
abbrev pub fields_at : ℕ → List ℕ → Read What
fields_at tag bytes =
    if tag == 1 then trade_fields bytes
    else (if tag == 2 then numbered_fields Affirm bytes
    else (if tag == 3 then numbered_fields End bytes
    else (if tag == 4 then numbered_fields Hold bytes
    else (if tag == 5 then numbered_fields Free bytes
    else (if tag == 6 then tolerance_fields bytes
    else (if tag == 7 then freeze_fields bytes
    else (if tag == 8 then begin_fields bytes
    else (if tag == 9 then post_fields bytes
    else (if tag == 10 then versioned_fields Accept bytes
    else (if tag == 11 then versioned_fields Decline bytes
    else (if tag == 12 then numbered_fields Cancel bytes
    else Err (1 + length bytes))))))))))))

unfoldable pub change_at : List ℕ → Read What
change_at [] = Err 0
change_at (tag ∷ bytes) = fields_at tag bytes

-- ---- the record

-- the moment in front of a record; the first spelling has none, which is 0
abbrev pub moment_at : Spelling → List ℕ → Read ℕ
moment_at First bytes = Ok (0, bytes)
moment_at Second bytes = field 8 moment_in bytes

unfoldable pub entry_at : Spelling → List ℕ → Read Entry
entry_at form bytes = do
  moment ← moment_at form bytes
  seat ← seat_at moment.1
  party ← name_at seat.1
  what ← change_at party.1
  Ok (record { seat = seat.0; ask = record { by = Some party.0; what = what.0; moment = moment.0 } }, what.1)

-- nothing may follow
unfoldable pub entry_of : Spelling → List ℕ → Result Entry ℕ
entry_of form bytes = do
  entry ← entry_at form bytes
  if length entry.1 == 0 then Ok entry.0 else Err (length entry.1)

-- a fault by its offset
abbrev pub by_offset : {A : Type 0} → ℕ → Result A ℕ → Result A ℕ
by_offset size (Ok value) = Ok value
by_offset size (Err left) = Err (size - left)

-- the change of which the bytes are this spelling, or the offset of the first byte of the first field that breaks the grammar
abbrev pub read_record : Spelling → List ℕ → Result Entry ℕ
read_record form bytes = by_offset (length bytes) (entry_of form bytes)
