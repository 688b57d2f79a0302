-- The laws of a roll, as statements.
use Rattle.std.specs.Prelude.{◌≡◌, ℕ, ℤ, pos, ◌-ℤ◌, Bool, false, true, List, map, filter, slice_get, Option, Some, None, Ok}
use Rattle.units_core.specs.Day.{DayParts}
use Rattle.command_types.specs.declared.base.Base.{Base}
use Rattle.command_types.specs.declared.roster.MemberRow.{MemberRow}
use Rattle.command_types.specs.declared.roster.ProductRow.{ProductRow}
use Rattle.command_types.specs.declared.tolerance.ToleranceRow.{ToleranceRow}
use Rattle.command_types.specs.declared.trade.Side.{Side}
use Rattle.command_types.specs.declared.trade.TradeRow.{TradeRow}
use Rattle.command_types.specs.declared.trade.TradeState.{TradeState}
use Rattle.command_types.specs.Roster.{Rows, IsRoster, member_place, product_place}
use Rattle.command_types.specs.Trades.{sold_by, bought_by}
use Rattle.command_types.specs.Tolerances.{floor_in, ceiling_in}
use Rattle.command_types.specs.Bases.{CanBeWritten, Fits}
use Rattle.period_roll.specs.Rolls.{rolled_base}
use Rattle.period_roll.specs.Trades.{is_kept, is_left_out}

-- ---- trades, by names

-- the name of a member that is there
abbrev pub member_name : Option MemberRow → Option (List ℕ)
member_name None = None
member_name (Some row) = Some row.name

-- the name of a product that is there
abbrev pub product_name : Option ProductRow → Option (List ℕ)
product_name None = None
product_name (Some row) = Some row.name

-- all of a trade but its number, with the names of its parties and of its product
pub record NamedTrade : Type 0 where
  pub seller : Option (List ℕ)
  pub buyer : Option (List ℕ)
  pub product : Option (List ℕ)
  pub amount : ℕ
  pub day : DayParts
  pub state : TradeState
  pub submitter : Option Side
  pub mark : Option Side
  pub hold_out : Bool
  pub hold_in : Bool
  pub frozen : Bool

-- a trade over a roster, by names
abbrev pub named_trade : Rows → TradeRow → NamedTrade
named_trade roster row = record {
  seller = member_name (slice_get roster.members row.seller);
  buyer = member_name (slice_get roster.members row.buyer);
  product = product_name (slice_get roster.products row.product);
  amount = row.amount;
  day = row.day;
  state = row.state;
  submitter = row.submitter;
  mark = row.mark;
  hold_out = row.hold_out;
  hold_in = row.hold_in;
  frozen = row.frozen;
}

-- By names, the trades after a roll are those that go along, in their order: new rows of the roster come in with nothing.
abbrev pub TradesStay : Type 0
TradesStay =
    (old new : Rows) (matured : Option DayParts) (base made : Base) → rolled_base old new matured base ≡ Ok made →
    map (named_trade new) made.trades ≡ map (named_trade old) (filter (is_kept old matured) base.trades)

-- ---- net positions

-- what a member owes in a product, over its live trades; where one of them is not in the roster, nothing
abbrev pub sold_at : List TradeRow → Option ℕ → Option ℕ → ℕ
sold_at trades (Some product) (Some member) = sold_by product member trades
sold_at trades product member = 0

-- what it is owed
abbrev pub bought_at : List TradeRow → Option ℕ → Option ℕ → ℕ
bought_at trades (Some product) (Some member) = bought_by product member trades
bought_at trades product member = 0

-- what the member of this name owes in the product of this name
abbrev pub owed_by : Rows → List TradeRow → List ℕ → List ℕ → ℕ
owed_by roster trades product member = sold_at trades (product_place roster product) (member_place roster member)

-- what it is owed
abbrev pub due_to : Rows → List TradeRow → List ℕ → List ℕ → ℕ
due_to roster trades product member = bought_at trades (product_place roster product) (member_place roster member)

-- its net position
abbrev pub net_of : Rows → List TradeRow → List ℕ → List ℕ → ℤ
net_of roster trades product member = pos (owed_by roster trades product member) -ℤ pos (due_to roster trades product member)

-- the product at this place is there, and left out
abbrev pub is_out_at : Rows → Option DayParts → Option ℕ → Bool
is_out_at old matured None = false
is_out_at old matured (Some product) = is_left_out old matured product

-- the product of this name is left out
abbrev pub is_out : Rows → Option DayParts → List ℕ → Bool
is_out old matured product = is_out_at old matured (product_place old product)

-- Every member owes as much and is owed as much in every product as before, so its net position is the same; in a product that is left out it has none.
pub record KeepsPosition (old new : Rows) (matured : Option DayParts) (before after : List TradeRow) (product member : List ℕ) : Type 0 where
  pub owed : is_out old matured product ≡ false → owed_by new after product member ≡ owed_by old before product member
  pub due : is_out old matured product ≡ false → due_to new after product member ≡ due_to old before product member
  pub net : is_out old matured product ≡ false → net_of new after product member ≡ net_of old before product member
  pub none : is_out old matured product ≡ true → net_of new after product member ≡ pos 0

abbrev pub NetsStay : Type 0
NetsStay =
    (old new : Rows) (matured : Option DayParts) (base made : Base) → IsRoster old → rolled_base old new matured base ≡ Ok made →
    (product member : List ℕ) → KeepsPosition old new matured base.trades made.trades product member

-- ---- settings

-- what a member set as the least for its side of a pair; where one of the three is not in the roster, 0
abbrev pub floor_at : List ToleranceRow → Side → Option ℕ → Option ℕ → Option ℕ → ℕ
floor_at settings side (Some member) (Some product) (Some other) = floor_in settings member product other side
floor_at settings side member product other = 0

-- what it set as the most, if it did
abbrev pub ceiling_at : List ToleranceRow → Side → Option ℕ → Option ℕ → Option ℕ → Option ℕ
ceiling_at settings side (Some member) (Some product) (Some other) = ceiling_in settings member product other side
ceiling_at settings side member product other = None

-- Between members and products that are in the new roster, floors and ceilings are the same as before: what was not in the old one comes in with none.
abbrev pub SettingsStay : Type 0
SettingsStay =
    (old new : Rows) (matured : Option DayParts) (base made : Base) → IsRoster old → IsRoster new → CanBeWritten base → rolled_base old new matured base ≡ Ok made →
    (member product other : List ℕ) (side : Side) (m p o : ℕ) → member_place new member ≡ Some m → product_place new product ≡ Some p → member_place new other ≡ Some o →
    (floor_in made.tolerances m p o side ≡ floor_at base.tolerances side (member_place old member) (product_place old product) (member_place old other))
    × (ceiling_in made.tolerances m p o side ≡ ceiling_at base.tolerances side (member_place old member) (product_place old product) (member_place old other))

-- ---- what comes of it

-- what is written over the new roster can be written
abbrev pub RolledCanBeWritten : Type 0
RolledCanBeWritten =
    (old new : Rows) (matured : Option DayParts) (base made : Base) → IsRoster new → CanBeWritten base → rolled_base old new matured base ≡ Ok made → CanBeWritten made

-- and fits that roster, where the base fits the old one
abbrev pub RolledFits : Type 0
RolledFits =
    (old new : Rows) (matured : Option DayParts) (base made : Base) → IsRoster old → IsRoster new → Fits old base → rolled_base old new matured base ≡ Ok made → Fits new made
