-- When the steps of a plan can be executed on trades.
use Rattle.std.specs.Prelude.{◌≡◌, ◌≢◌, ℕ, ◌≤◌, ◌<◌, List, [], ◌∷◌, ◌++◌, All, AllPairs, Option, Some, None, IsTrue}
use Rattle.command_types.specs.declared.plan.PlanRow.{PlanRow}
use Rattle.command_types.specs.declared.plan.PlanRow.TheVariants.{End, Cut, New}
use Rattle.command_types.specs.declared.trade.TradeRow.{TradeRow}
use Rattle.command_types.specs.Trades.{is_live, gross_of, trade_numbered}
use Rattle.command_types.specs.Plans.{executed}
use Rattle.units_core.specs.declared.limits.TheConstants.{MOST_GROSS}

-- the trade is there, and live
abbrev pub IsLiveTrade : Option TradeRow → Type 0
IsLiveTrade None = ⊥
IsLiveTrade (Some row) = IsTrue (is_live row.state)

-- the trade is there and live, and its amount falls from this one to a smaller one that is not 0
abbrev pub MayFall : ℕ → ℕ → Option TradeRow → Type 0
MayFall from to None = ⊥
MayFall from to (Some row) = IsTrue (is_live row.state) × (from ≡ row.amount) × (1 ≤ to) × (to < from)

-- a step that these trades allow: a new trade has a product and two different parties that there are
abbrev pub IsStep : ℕ → ℕ → List TradeRow → PlanRow → Type 0
IsStep members products rows (End trade) = IsLiveTrade (trade_numbered rows trade)
IsStep members products rows (Cut trade from to) = MayFall from to (trade_numbered rows trade)
IsStep members products rows (New product seller buyer amount day) =
    (product < products) × (seller < members) × (buyer < members) × (seller ≢ buyer)

-- the trade that a step ends or cuts
abbrev pub trade_of_step : PlanRow → List ℕ
trade_of_step (End trade) = trade ∷ []
trade_of_step (Cut trade from to) = trade ∷ []
trade_of_step (New product seller buyer amount day) = []

-- the trades that a plan ends or cuts, in its order
abbrev pub falling_trades : List PlanRow → List ℕ
falling_trades [] = []
falling_trades (step ∷ plan) = trade_of_step step ++ falling_trades plan

-- the trades allow each step, no trade stands in two steps, and each product's gross is within the limit afterwards
pub record IsExecutable (members products : ℕ) (rows : List TradeRow) (plan : List PlanRow) : Type 0 where
  pub steps : All (IsStep members products rows) plan
  pub once : AllPairs (λ a b. a ≢ b) (falling_trades plan)
  pub bounded : (product : ℕ) → gross_of product (executed plan rows) ≤ MOST_GROSS
