-- Bases of histories: what is written of a state in which no cycle is open, how it is spelled, and which bases fit a roster.
use Rattle.std.specs.Prelude.{◌≡◌, ◌≢◌, ℕ, ◌+◌, ◌==◌, ◌≤◌, ◌<◌, suc, false, List, [], ◌∷◌, ◌++◌, length, map, All, Option, Some, None, is_some, IfSome, IsTrue, if◌then◌else◌}
use Rattle.std.specs.Int.{w16, to_le_bytes}
use Rattle.std.specs.List.{flat_map}
use Rattle.units_core.specs.Name.{is_name}
use Rattle.units_core.specs.Number.{is_amount}
use Rattle.units_core.specs.declared.limits.TheConstants.{MOST_GROSS, MOST_NUMBER, MOST_SUBMITTED}
use Rattle.command_types.specs.declared.base.Base.{Base}
use Rattle.command_types.specs.declared.figures.Start.{Start}
use Rattle.command_types.specs.declared.roster.MemberRow.{MemberRow}
use Rattle.command_types.specs.declared.roster.ProductRow.{ProductRow}
use Rattle.command_types.specs.declared.spelling.Spelling.{Spelling}
use Rattle.command_types.specs.declared.spelling.Spelling.TheVariants.{First, Second}
use Rattle.command_types.specs.declared.tolerance.ToleranceRow.{ToleranceRow}
use Rattle.command_types.specs.declared.trade.Side.{Side}
use Rattle.command_types.specs.declared.trade.Side.TheVariants.{Out, In}
use Rattle.command_types.specs.declared.trade.TradeRow.{TradeRow}
use Rattle.command_types.specs.declared.trade.TradeState.{TradeState}
use Rattle.command_types.specs.declared.trade.TradeState.TheVariants.{Alleged, Live, Ended}
use Rattle.command_types.specs.Roster.{Rows}
use Rattle.command_types.specs.Trades.{gross_of, submitted_count}
use Rattle.command_types.specs.Tolerances.{setting_place}
use Rattle.command_types.specs.Cycles.{closed}
use Rattle.command_types.specs.CycleRefusals.{is_crossed}
use Rattle.command_types.specs.Spelling.{number_spelling, name_spelling, day_spelling, side_byte, ceiling_spelling, IsNumber, IsLevel, IsDay}

-- ---- what is written

-- what is written of this base
abbrev pub written : Start → Base
written base = record {
  position = base.position;
  cycle = base.state.cycle.number;
  version = base.state.cycle.version;
  members = map (λ (row : MemberRow). row.name) base.state.roster.members;
  products = map (λ (row : ProductRow). row.name) base.state.roster.products;
  tolerances = base.state.tolerances;
  trades = base.state.trades;
}

-- the base that is written so, over a roster: its roster is that one, and no cycle is open
abbrev pub base_in : Rows → Base → Start
base_in roster b = record {
  position = b.position;
  state = record { roster = roster; trades = b.trades; tolerances = b.tolerances; cycle = closed b.cycle b.version };
}

-- ---- the spelling

-- their number in two bytes, and the names
abbrev pub names_spelling : List (List ℕ) → List ℕ
names_spelling names = to_le_bytes w16 (length names) ++ flat_map name_spelling names

-- the places of the member, the product and the other member in two bytes each, the side's byte, the floor, and the ceiling if there is one
abbrev pub setting_spelling : ToleranceRow → List ℕ
setting_spelling row =
    to_le_bytes w16 row.member ++ to_le_bytes w16 row.product ++ to_le_bytes w16 row.other ++ side_byte row.side ∷ number_spelling row.floor ++ ceiling_spelling row.ceiling

-- a trade's state in one byte
abbrev pub state_byte : TradeState → ℕ
state_byte Alleged = 0
state_byte Live = 1
state_byte Ended = 2

-- a submitter or a mark
abbrev pub party_byte : Option Side → ℕ
party_byte None = 0
party_byte (Some Out) = 1
party_byte (Some In) = 2

-- the holds of both parties in one byte: 1 for the seller's, and 2 for the buyer's
abbrev pub hold_byte : TradeRow → ℕ
hold_byte row = (if row.hold_out then 1 else 0) + (if row.hold_in then 2 else 0)

-- the places of the seller, the buyer and the product in two bytes each, the amount, the day, and one byte each for the state, the submitter, the mark and the holds; its number is its place
abbrev pub trade_spelling : TradeRow → List ℕ
trade_spelling row =
    to_le_bytes w16 row.seller ++ to_le_bytes w16 row.buyer ++ to_le_bytes w16 row.product ++ number_spelling row.amount ++ day_spelling row.day
    ++ state_byte row.state ∷ party_byte row.submitter ∷ party_byte row.mark ∷ hold_byte row ∷ []

-- the mark of a base tells the spelling of the records behind it
abbrev pub mark_byte : Spelling → ℕ
mark_byte First = 1
mark_byte Second = 2

-- the spelling of the records behind a base, by its mark; where there is no base it is the first
abbrev pub spelling_behind : List ℕ → Spelling
spelling_behind [] = First
spelling_behind (mark ∷ bytes) = if mark == 2 then Second else First

-- the mark, and the fields
abbrev pub base_spelling : Spelling → Base → List ℕ
base_spelling behind b =
    mark_byte behind ∷ number_spelling b.position ++ number_spelling b.cycle ++ number_spelling b.version ++ names_spelling b.members ++ names_spelling b.products
    ++ number_spelling (length b.tolerances) ++ flat_map setting_spelling b.tolerances ++ number_spelling (length b.trades) ++ flat_map trade_spelling b.trades

-- ---- what has a spelling

-- places in two bytes each, a floor, and perhaps a ceiling
pub record IsSettingRow (row : ToleranceRow) : Type 0 where
  pub member : row.member < 65536
  pub product : row.product < 65536
  pub other : row.other < 65536
  pub floor : IsLevel row.floor
  pub ceiling : IfSome row.ceiling IsLevel

-- the settings stand in rising order of member, product, other member and side, each above this place
abbrev pub AreRising : ℕ → List ToleranceRow → Type 0
AreRising above [] = Unit {0}
AreRising above (row ∷ rows) = (above ≤ setting_place row) × AreRising (suc (setting_place row)) rows

-- the trade with this number, which is not frozen
pub record IsTradeRow (number : ℕ) (row : TradeRow) : Type 0 where
  pub numbered : row.number ≡ number
  pub seller : row.seller < 65536
  pub buyer : row.buyer < 65536
  pub product : row.product < 65536
  pub amount : IsTrue (is_amount row.amount)
  pub day : IsDay row.day
  pub free : row.frozen ≡ false

-- the trades are numbered one after another, the first by this number, and none is frozen
abbrev pub AreTradeRows : ℕ → List TradeRow → Type 0
AreTradeRows number [] = Unit {0}
AreTradeRows number (row ∷ rows) = IsTradeRow number row × AreTradeRows (suc number) rows

-- what is written of some base
pub record IsWrittenBase (b : Base) : Type 0 where
  pub position : IsNumber b.position
  pub cycle : IsNumber b.cycle
  pub version : IsNumber b.version
  pub few_members : length b.members < 65536
  pub few_products : length b.products < 65536
  pub members : All (λ name. IsTrue (is_name name)) b.members
  pub products : All (λ name. IsTrue (is_name name)) b.products
  pub settings : All IsSettingRow b.tolerances
  pub rising : AreRising 0 b.tolerances
  pub trades : AreTradeRows 1 b.trades
  pub few_trades : IsNumber (length b.trades)

-- The bytes are a spelling of what is written, with either mark.
pub record SpellsBase (bytes : List ℕ) (b : Base) : Type 0 where
  pub fields : IsWrittenBase b
  pub behind : Spelling
  pub same : bytes ≡ base_spelling behind b

-- ---- what can be written

-- the trades are numbered one after another, the first by this number, and none is frozen
abbrev pub AreNumbered : ℕ → List TradeRow → Type 0
AreNumbered number [] = Unit {0}
AreNumbered number (row ∷ rows) = (row.number ≡ number) × (row.frozen ≡ false) × AreNumbered (suc number) rows

-- at most 65,535 members and products, the settings in rising order, the trades numbered from 1, and none frozen
pub record CanBeWritten (b : Base) : Type 0 where
  pub few_members : length b.members < 65536
  pub few_products : length b.products < 65536
  pub rising : AreRising 0 b.tolerances
  pub numbered : AreNumbered 1 b.trades

-- ---- what fits a roster

-- a setting of a member of a pair: the places are in range, the two differ, and the floor does not pass the ceiling
pub record IsSettingIn (members products : ℕ) (row : ToleranceRow) : Type 0 where
  pub member : row.member < members
  pub product : row.product < products
  pub other : row.other < members
  pub different : row.member ≢ row.other
  pub level : is_crossed row.floor row.ceiling ≡ false

-- a trade that waits for the other party has a submitter, and neither a mark nor a hold
abbrev pub IsFresh : TradeState → TradeRow → Type 0
IsFresh Alleged row = IsTrue (is_some row.submitter) × (row.mark ≡ None) × (row.hold_out ≡ false) × (row.hold_in ≡ false)
IsFresh state row = Unit {0}

-- a trade of two different members
pub record IsTradeIn (members products : ℕ) (row : TradeRow) : Type 0 where
  pub seller : row.seller < members
  pub buyer : row.buyer < members
  pub product : row.product < products
  pub different : row.seller ≢ row.buyer
  pub amount : IsTrue (is_amount row.amount)
  pub fresh : IsFresh row.state row

-- what is written fits the roster: the names are the roster's, and a machine over it may stand so
pub record Fits (roster : Rows) (b : Base) : Type 0 where
  pub position : b.position ≤ MOST_NUMBER
  pub cycle : b.cycle ≤ MOST_NUMBER
  pub version : b.version ≤ MOST_NUMBER
  pub members : b.members ≡ map (λ (row : MemberRow). row.name) roster.members
  pub products : b.products ≡ map (λ (row : ProductRow). row.name) roster.products
  pub settings : All (IsSettingIn (length roster.members) (length roster.products)) b.tolerances
  pub trades : All (IsTradeIn (length roster.members) (length roster.products)) b.trades
  pub bounded : (product : ℕ) → gross_of product b.trades ≤ MOST_GROSS
  pub few : submitted_count b.trades ≤ MOST_SUBMITTED
