-- New networks for frozen trades, the plan that they make, and the trades after it.
use Rattle.std.specs.Prelude.{◌≡◌, ℕ, ◌+◌, ◌<◌, ◌≤◌, IsTrue, List, [], ◌∷◌, All, length, slice_get, Some}
use Rattle.units_core.specs.Day.{DayParts}
use Rattle.network_laws.specs.Networks.{NetworkData, IsNetwork, at}
use Rattle.command_types.specs.declared.plan.PlanRow.{PlanRow}
use Rattle.command_types.specs.declared.trade.TradeRow.{TradeRow}
use Rattle.command_types.specs.Trades.{is_live}
use Rattle.command_types.specs.Books.{listed_below, frozen_network, held_network}
use Rattle.command_types.specs.Plans.{plan_of, executed}

-- the trades are numbered one by one, from this number on
abbrev pub AreNumbered : ℕ → List TradeRow → Type 0
AreNumbered n [] = Unit {0}
AreNumbered n (row ∷ rows) = (row.number ≡ n) × AreNumbered (n + 1) rows

-- a frozen trade is live
abbrev pub IsLiveIfFrozen : TradeRow → Type 0
IsLiveIfFrozen row = IsTrue row.frozen → IsTrue (is_live row.state)

-- a product's new network: no pair of it is below what is held of the pair
pub record IsNewNetwork (members product : ℕ) (rows : List TradeRow) (new : NetworkData) : Type 0 where
  pub network : IsNetwork new
  pub size : new.members ≡ members
  pub held : (seller buyer : ℕ) → seller < members → buyer < members → at (held_network members product rows) seller buyer ≤ at new seller buyer

-- trades of which some are frozen, and a new network for each product
pub record IsRenewal (members products : ℕ) (rows : List TradeRow) (new : List NetworkData) : Type 0 where
  pub numbered : AreNumbered 1 rows
  pub live : All IsLiveIfFrozen rows
  pub as_many : length new ≡ products
  pub each : (product : ℕ) (network : NetworkData) → slice_get new product ≡ Some network → IsNewNetwork members product rows network

-- the networks of the frozen trades, in the order of the products
abbrev pub frozen_networks : ℕ → ℕ → List TradeRow → List NetworkData
frozen_networks members products rows = listed_below products (λ product. frozen_network members product rows ∷ [])

-- what the new networks change in the frozen trades
abbrev pub renewal_plan : ℕ → ℕ → List TradeRow → List NetworkData → DayParts → List PlanRow
renewal_plan members products rows new day = plan_of rows (frozen_networks members products rows) new day

-- the trades after it
abbrev pub renewed : ℕ → ℕ → List TradeRow → List NetworkData → DayParts → List TradeRow
renewed members products rows new day = executed (renewal_plan members products rows new day) rows
