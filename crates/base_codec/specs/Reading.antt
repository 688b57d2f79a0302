-- Reading a base from left to right, with the first field that breaks the grammar. A setting out of its order is told at its first byte.
use Rattle.std.specs.Prelude.{ℕ, ◌+◌, ◌==◌, ◌||◌, nat_le, zero, suc, Bool, true, false, List, [], ◌∷◌, length, slice_index, Option, Some, None, Result, Ok, Err, if◌then◌else◌}
use Rattle.std.specs.Int.{w16}
use Rattle.command_types.specs.declared.base.Base.{Base}
use Rattle.command_types.specs.declared.tolerance.ToleranceRow.{ToleranceRow}
use Rattle.command_types.specs.declared.trade.Side.{Side}
use Rattle.command_types.specs.declared.trade.Side.TheVariants.{Out, In}
use Rattle.command_types.specs.declared.trade.TradeRow.{TradeRow}
use Rattle.command_types.specs.declared.trade.TradeState.{TradeState}
use Rattle.command_types.specs.declared.trade.TradeState.TheVariants.{Alleged, Live, Ended}
use Rattle.command_types.specs.Tolerances.{setting_place}
use Rattle.record_codec.specs.Reading.{Read, ◌>>=◌, field, number_in, number_at, name_at, amount_at, level_at, day_at, side_at, ceiling_at, by_offset}

-- ---- fields of one and of two bytes

abbrev pub short_at : List ℕ → Read ℕ
short_at bytes = field 2 (number_in w16) bytes

abbrev pub state_in : List ℕ → Option TradeState
state_in text =
    if slice_index text 0 == 0 then Some Alleged
    else if slice_index text 0 == 1 then Some Live
    else if slice_index text 0 == 2 then Some Ended
    else None

-- a submitter or a mark
abbrev pub party_in : List ℕ → Option (Option Side)
party_in text =
    if slice_index text 0 == 0 then Some None
    else if slice_index text 0 == 1 then Some (Some Out)
    else if slice_index text 0 == 2 then Some (Some In)
    else None

-- whether the seller holds, and whether the buyer does
abbrev pub holds_in : List ℕ → Option (Bool × Bool)
holds_in text =
    if slice_index text 0 == 0 then Some (false, false)
    else if slice_index text 0 == 1 then Some (true, false)
    else if slice_index text 0 == 2 then Some (false, true)
    else if slice_index text 0 == 3 then Some (true, true)
    else None

abbrev pub state_at : List ℕ → Read TradeState
state_at bytes = field 1 state_in bytes

abbrev pub party_at : List ℕ → Read (Option Side)
party_at bytes = field 1 party_in bytes

abbrev pub holds_at : List ℕ → Read (Bool × Bool)
holds_at bytes = field 1 holds_in bytes

-- ---- names

unfoldable pub names_each : ℕ → List ℕ → Read (List (List ℕ))
names_each zero bytes = Ok ([], bytes)
names_each (suc count) bytes = do
  first ← name_at bytes
  others ← names_each count first.1
  Ok (first.0 ∷ others.0, others.1)

-- their number, and the names
unfoldable pub names_at : List ℕ → Read (List (List ℕ))
names_at bytes = do
  count ← short_at bytes
  names_each count.0 count.1

-- ---- settings

-- a setting that was read, if its place is not before the next one
abbrev pub in_order : ℕ → ToleranceRow → ℕ → List ℕ → Read ToleranceRow
in_order next row left rest = if nat_le next (setting_place row) then Ok (row, rest) else Err left

unfoldable pub setting_at : ℕ → List ℕ → Read ToleranceRow
setting_at next bytes = do
  member ← short_at bytes
  product ← short_at member.1
  other ← short_at product.1
  side ← side_at other.1
  floor ← level_at side.1
  ceiling ← ceiling_at floor.1
  in_order next (record { member = member.0; product = product.0; other = other.0; side = side.0; floor = floor.0; ceiling = ceiling.0 }) (length bytes) ceiling.1

unfoldable pub settings_each : ℕ → ℕ → List ℕ → Read (List ToleranceRow)
settings_each zero next bytes = Ok ([], bytes)
settings_each (suc count) next bytes = do
  first ← setting_at next bytes
  others ← settings_each count (setting_place first.0 + 1) first.1
  Ok (first.0 ∷ others.0, others.1)

-- their number, and the settings
unfoldable pub settings_at : List ℕ → Read (List ToleranceRow)
settings_at bytes = do
  count ← number_at bytes
  settings_each count.0 0 count.1

-- ---- trades

-- the trade with this number
unfoldable pub trade_at : ℕ → List ℕ → Read TradeRow
trade_at number bytes = do
  seller ← short_at bytes
  buyer ← short_at seller.1
  product ← short_at buyer.1
  amount ← amount_at product.1
  day ← day_at amount.1
  state ← state_at day.1
  submitter ← party_at state.1
  mark ← party_at submitter.1
  holds ← holds_at mark.1
  Ok (
    record {
      number = number;
      seller = seller.0;
      buyer = buyer.0;
      product = product.0;
      amount = amount.0;
      day = day.0;
      state = state.0;
      submitter = submitter.0;
      mark = mark.0;
      hold_out = holds.0.0;
      hold_in = holds.0.1;
      frozen = false;
    },
    holds.1,
  )

-- so many trades, numbered from this number on
unfoldable pub trades_each : ℕ → ℕ → List ℕ → Read (List TradeRow)
trades_each zero number bytes = Ok ([], bytes)
trades_each (suc count) number bytes = do
  first ← trade_at number bytes
  others ← trades_each count (number + 1) first.1
  Ok (first.0 ∷ others.0, others.1)

-- their number, and the trades
unfoldable pub trades_at : List ℕ → Read (List TradeRow)
trades_at bytes = do
  count ← number_at bytes
  trades_each count.0 1 count.1

-- ---- the base

unfoldable pub base_fields : List ℕ → Read Base
base_fields bytes = do
  position ← number_at bytes
  cycle ← number_at position.1
  version ← number_at cycle.1
  members ← names_at version.1
  products ← names_at members.1
  tolerances ← settings_at products.1
  trades ← trades_at tolerances.1
  Ok (
    record {
      position = position.0;
      cycle = cycle.0;
      version = version.0;
      members = members.0;
      products = products.0;
      tolerances = tolerances.0;
      trades = trades.0;
    },
    trades.1,
  )

-- the mark, and the fields
unfoldable pub base_at : List ℕ → Read Base
base_at [] = Err 0
base_at (mark ∷ bytes) = if (mark == 1) || (mark == 2) then base_fields bytes else Err (suc (length bytes))

-- nothing may follow
unfoldable pub base_of : List ℕ → Result Base ℕ
base_of bytes = do
  base ← base_at bytes
  if length base.1 == 0 then Ok base.0 else Err (length base.1)

-- the base that the bytes spell, or the offset of the first byte of the first field that breaks the grammar
abbrev pub read_whole_base : List ℕ → Result Base ℕ
read_whole_base bytes = by_offset (length bytes) (base_of bytes)
