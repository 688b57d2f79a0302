-- The laws of plans, as statements.
use Rattle.std.specs.Prelude.{◌≡◌, ◌≢◌, ℕ, ◌+◌, ◌<◌, ◌≤◌, ◌&&◌, ◌||◌, not, Bool, false, IsTrue, List, All, length, map, filter, take, drop, slice_get, None, Some, ℤ, pos, ◌-ℤ◌}
use Rattle.units_core.specs.Day.{DayParts}
use Rattle.network_laws.specs.Networks.{NetworkData, at, net, gross}
use Rattle.command_types.specs.declared.plan.PlanRow.{PlanRow}
use Rattle.command_types.specs.declared.trade.TradeRow.{TradeRow}
use Rattle.command_types.specs.declared.trade.TradeState.TheVariants.{Live}
use Rattle.command_types.specs.Trades.{is_live, total_where, sold_by, bought_by, gross_of}
use Rattle.command_types.specs.Books.{is_between, is_held, frozen_network, held_network}
use Rattle.command_types.specs.Plans.{plan_of, is_new, count_of}
use Rattle.command_types.specs.Execution.{IsExecutable}
use Rattle.acceptance.specs.FreePlans.{IsFreePlan}
use Rattle.acceptance.specs.Renewals.{AreNumbered, IsRenewal, renewal_plan, renewed}
use Rattle.units_core.specs.declared.limits.TheConstants.{MOST_GROSS}

-- what the seller owes the buyer in a product, over their live trades that are frozen
abbrev pub frozen_sum : ℕ → ℕ → ℕ → List TradeRow → ℕ
frozen_sum product seller buyer rows = total_where (λ row. is_between product seller buyer row && row.frozen && is_live row.state) rows

-- the same over all trades between them
abbrev pub pair_sum : ℕ → ℕ → ℕ → List TradeRow → ℕ
pair_sum product seller buyer rows = total_where (is_between product seller buyer) rows

-- no plan may change the trade
abbrev pub stands : TradeRow → Bool
stands row = not row.frozen || is_held row

-- a trade that a plan makes: live at once, not frozen, of this day, between two members in range; nobody submitted, marked or holds it
pub record IsMade (members products : ℕ) (day : DayParts) (row : TradeRow) : Type 0 where
  pub product : row.product < products
  pub seller : row.seller < members
  pub buyer : row.buyer < members
  pub different : row.seller ≢ row.buyer
  pub amount : 1 ≤ row.amount
  pub on_day : row.day ≡ day
  pub state : row.state ≡ Live
  pub submitter : row.submitter ≡ None
  pub mark : row.mark ≡ None
  pub held : is_held row ≡ false
  pub frozen : row.frozen ≡ false

-- what a renewal leaves: the trades that there were come first, and the made ones stand behind them
pub record IsRenewed (members products : ℕ) (rows after : List TradeRow) (new : List NetworkData) (plan : List PlanRow) (day : DayParts) : Type 0 where
  pub pairs : (product : ℕ) (network : NetworkData) → slice_get new product ≡ Some network → (seller buyer : ℕ) → seller < members → buyer < members →
      frozen_sum product seller buyer (take (length rows) after) + pair_sum product seller buyer (drop (length rows) after) ≡ at network seller buyer
  pub kept : (place : ℕ) (row : TradeRow) → slice_get rows place ≡ Some row → IsTrue (stands row) → slice_get after place ≡ Some row
  pub numbered : AreNumbered 1 after
  pub made : All (IsMade members products day) (drop (length rows) after)
  pub size : length after ≡ length rows + count_of is_new plan

-- the plan of new networks gives each pair the amount that its new network has
abbrev pub PlanRealises : Type 0
PlanRealises =
    (members products : ℕ) (rows : List TradeRow) (new : List NetworkData) (day : DayParts) → IsRenewal members products rows new →
    IsRenewed members products rows (renewed members products rows new day) new (renewal_plan members products rows new day) day

-- it ends and cuts free trades alone, each once
abbrev pub PlanIsFree : Type 0
PlanIsFree =
    (members products : ℕ) (rows : List TradeRow) (new : List NetworkData) (day : DayParts) → IsRenewal members products rows new →
    IsFreePlan members products rows (renewal_plan members products rows new day)

-- no product's gross is over the limit, and no new network's gross is above that of the frozen one
pub record HasRoom (members : ℕ) (rows : List TradeRow) (new : List NetworkData) : Type 0 where
  pub bounded : (product : ℕ) → gross_of product rows ≤ MOST_GROSS
  pub falls : (product : ℕ) (network : NetworkData) → slice_get new product ≡ Some network → gross network ≤ gross (frozen_network members product rows)

-- where that is so, the plan can be executed
abbrev pub PlanIsExecutable : Type 0
PlanIsExecutable =
    (members products : ℕ) (rows : List TradeRow) (new : List NetworkData) (day : DayParts) → IsRenewal members products rows new → HasRoom members rows new →
    IsExecutable members products rows (renewal_plan members products rows new day)

-- a member's position in a product: what it sold less what it bought, over the live trades
abbrev pub position : ℕ → ℕ → List TradeRow → ℤ
position product member rows = pos (sold_by product member rows) -ℤ pos (bought_by product member rows)

-- no member's net position in the product is another than in the frozen network
abbrev pub HasSameNets : ℕ → ℕ → List TradeRow → NetworkData → Type 0
HasSameNets members product rows network = (member : ℕ) → member < members → net network member ≡ net (frozen_network members product rows) member

-- where a new network has the nets of the old one, no member's position in the product changes
abbrev pub NetsStay : Type 0
NetsStay =
    (members products : ℕ) (rows : List TradeRow) (new : List NetworkData) (day : DayParts) → IsRenewal members products rows new → (product : ℕ) (network : NetworkData) →
    slice_get new product ≡ Some network → HasSameNets members product rows network → (member : ℕ) → member < members →
    position product member (renewed members products rows new day) ≡ position product member rows

-- the gross of a product changes by what its network's does
abbrev pub GrossFollows : Type 0
GrossFollows =
    (members products : ℕ) (rows : List TradeRow) (new : List NetworkData) (day : DayParts) → IsRenewal members products rows new → (product : ℕ) (network : NetworkData) →
    slice_get new product ≡ Some network →
    gross_of product (renewed members products rows new day) + gross (frozen_network members product rows) ≡ gross_of product rows + gross network

-- what a plan sees of a trade: all but its mark
abbrev pub unmarked : TradeRow → TradeRow
unmarked row = record row { mark = None }

-- the frozen trades, as a plan sees them
abbrev pub frozen_of : List TradeRow → List TradeRow
frozen_of rows = map unmarked (filter (λ row. row.frozen) rows)

-- two lists of trades have the same plans, and the same networks of frozen and of held trades
pub record HasSamePlans (rows other : List TradeRow) : Type 0 where
  pub plan : (old new : List NetworkData) (day : DayParts) → plan_of rows old new day ≡ plan_of other old new day
  pub frozen : (members product : ℕ) → frozen_network members product rows ≡ frozen_network members product other
  pub held : (members product : ℕ) → held_network members product rows ≡ held_network members product other

-- a plan rests on the frozen trades alone
abbrev pub PlanIsOfTheFrozen : Type 0
PlanIsOfTheFrozen = (rows other : List TradeRow) → frozen_of rows ≡ frozen_of other → HasSamePlans rows other
