-- Plans that end and cut free trades alone.
use Rattle.std.specs.Prelude.{◌≡◌, ◌≢◌, ℕ, ◌<◌, ◌≤◌, false, IsTrue, List, All, AllPairs, MatchOption}
use Rattle.command_types.specs.declared.plan.PlanRow.{PlanRow}
use Rattle.command_types.specs.declared.plan.PlanRow.TheVariants.{End, Cut, New}
use Rattle.command_types.specs.declared.trade.TradeRow.{TradeRow}
use Rattle.command_types.specs.Trades.{is_live, trade_numbered}
use Rattle.command_types.specs.Books.{is_held}
use Rattle.command_types.specs.Execution.{falling_trades}
use Rattle.units_core.specs.declared.limits.TheConstants.{MOST_GROSS}

-- a live trade that takes part in the cycle, and that nobody holds
pub record IsFree (row : TradeRow) : Type 0 where
  pub live : IsTrue (is_live row.state)
  pub frozen : IsTrue row.frozen
  pub free : is_held row ≡ false

-- a free trade whose amount falls from the one to the other
pub record IsCutting (from to : ℕ) (row : TradeRow) : Type 0 where
  pub trade : IsFree row
  pub amount : row.amount ≡ from
  pub least : 1 ≤ to
  pub less : to < from

-- a new trade of a product in range between two different members in range, with an amount that a trade may have
pub record IsNewInRange (members products product seller buyer amount : ℕ) : Type 0 where
  pub in_products : product < products
  pub in_sellers : seller < members
  pub in_buyers : buyer < members
  pub different : seller ≢ buyer
  pub least : 1 ≤ amount
  pub most : amount ≤ MOST_GROSS

-- the step is of a free trade, or makes a good one
abbrev pub IsFreeStep : ℕ → ℕ → List TradeRow → PlanRow → Type 0
IsFreeStep members products rows (End trade) = MatchOption (trade_numbered rows trade) ⊥ IsFree
IsFreeStep members products rows (Cut trade from to) = MatchOption (trade_numbered rows trade) ⊥ (IsCutting from to)
IsFreeStep members products rows (New product seller buyer amount day) = IsNewInRange members products product seller buyer amount

-- each step is, and no trade is ended or cut twice
pub record IsFreePlan (members products : ℕ) (rows : List TradeRow) (plan : List PlanRow) : Type 0 where
  pub steps : All (IsFreeStep members products rows) plan
  pub once : AllPairs (λ a b. a ≢ b) (falling_trades plan)
