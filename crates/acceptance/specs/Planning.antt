-- A plan as it is made: the free trades are sorted by pair, and then each pair is looked at that has a row in one of the networks.
use Rattle.std.specs.Prelude.{◌≡◌, ℕ, ◌+◌, ◌-◌, ◌*◌, ◌<◌, ◌≤◌, ◌==◌, ◌&&◌, not, nat_lt, nat_le, Bool, List, [], ◌∷◌, length, slice_index_or, if◌then◌else◌}
use Rattle.units_core.specs.Day.{DayParts}
use Rattle.network_laws.specs.declared.rows.Row.{Row}
use Rattle.network_laws.specs.Networks.{NetworkData, place}
use Rattle.command_types.specs.declared.plan.PlanRow.{PlanRow}
use Rattle.command_types.specs.declared.plan.PlanRow.TheVariants.{End, Cut, New}
use Rattle.command_types.specs.declared.trade.TradeRow.{TradeRow}
use Rattle.command_types.specs.Books.{is_between, is_held, listed_below}
use Rattle.command_types.specs.Plans.{falling, free_rows, pair_plan, plan_of}

-- a frozen trade that nobody holds
abbrev pub is_free : TradeRow → Bool
is_free row = row.frozen && not (is_held row)

-- a pair's free trade
abbrev pub is_free_between : ℕ → ℕ → ℕ → TradeRow → Bool
is_free_between product seller buyer row = is_between product seller buyer row && row.frozen && not (is_held row)

-- where the trades of a pair stand in the order by product, seller and buyer
abbrev pub pair_place : ℕ → ℕ → ℕ → ℕ
pair_place product seller buyer = (product * 65536 + seller) * 65536 + buyer

abbrev pub trade_place : TradeRow → ℕ
trade_place row = pair_place row.product row.seller row.buyer

-- the first m rows stand before a place
pub record AreBefore (rows : List Row) (m w : ℕ) : Type 0 where
  pub end : m ≤ length rows
  pub before : (k : ℕ) (d : Row) → k < m → place (slice_index_or rows k d) < w

-- the free trades of some trades have the same plans
abbrev pub HasPlansOf : List TradeRow → List TradeRow → Type 0
HasPlansOf trades free = (old new : List NetworkData) (day : DayParts) → plan_of free old new day ≡ plan_of trades old new day

-- what one trade gives up of a fall, if something is left of it
abbrev pub row_fall : ℕ → TradeRow → List PlanRow
row_fall fall row =
    if fall == 0 then [] else (if nat_le row.amount fall then End row.number ∷ [] else Cut row.number row.amount (row.amount - fall) ∷ [])

-- the steps of a pair whose amount was the one and is to be the other
abbrev pub pair_steps : ℕ → DayParts → List TradeRow → ℕ → ℕ → ℕ → ℕ → List PlanRow
pair_steps product day rows seller buyer before after =
    if nat_lt after before then falling (before - after) (free_rows rows product seller buyer)
    else (if nat_lt before after then New product seller buyer (after - before) day ∷ [] else [])

-- the steps of all pairs of a seller where a product's network changes
abbrev pub seller_plan : List TradeRow → DayParts → ℕ → NetworkData → NetworkData → ℕ → List PlanRow
seller_plan rows day product old new seller = listed_below old.members (pair_plan rows day product old new seller)
