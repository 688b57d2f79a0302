-- What the walk over a plan rests on.
use Rattle.std.specs.Prelude.{◌≢◌, ℕ, ◌*◌, ◌≤◌, ◌<◌, List, is_some, IsTrue, if◌then◌else◌}
use Rattle.command_types.specs.declared.plan.PlanRow.{PlanRow}
use Rattle.command_types.specs.declared.plan.PlanRow.TheVariants.{End, Cut, New}
use Rattle.command_types.specs.declared.trade.TradeRow.{TradeRow}
use Rattle.command_types.specs.Trades.{gross_of, trade_numbered}
use Rattle.command_types.specs.Plans.{is_new}
use Rattle.product_book.specs.Book.{gross_limit, AreTrades}
use Rattle.product_book.specs.OpenLists.{OpenView}
use Rattle.product_book.specs.declared.kept.KeptSums.{KeptSums}
use Rattle.product_book.specs.Kept.{AreKept}
use Rattle.product_book.specs.Links.{AreLinked}
use Rattle.units_core.specs.declared.limits.TheConstants.{MOST_MEMBERS, MOST_PRODUCTS}

-- at a step: the trade is there, and what is left of it is an amount
abbrev pub CanRun : List TradeRow → PlanRow → Type 0
CanRun rows (End trade) = IsTrue (is_some (trade_numbered rows trade))
CanRun rows (Cut trade from to) = IsTrue (is_some (trade_numbered rows trade)) × (1 ≤ to) × (to ≤ gross_limit)
CanRun rows (New product seller buyer amount day) = Unit {0}

-- a new trade of a step has a product and two different parties
abbrev pub IsMade : ℕ → ℕ → PlanRow → Type 0
IsMade members products (End trade) = Unit {0}
IsMade members products (Cut trade from to) = Unit {0}
IsMade members products (New product seller buyer amount day) = (product < products) × (seller < members) × (buyer < members) × (seller ≢ buyer)

-- before and after each step: the trades have their numbers, and the sums and the lists are theirs
pub record IsRunning (members products : ℕ) (sums : KeptSums) (by_product by_pair : OpenView) (spare : ℕ) (rows : List TradeRow) : Type 0 where
  pub few : members ≤ MOST_MEMBERS
  pub few_products : products ≤ MOST_PRODUCTS
  pub trades : AreTrades members products 1 rows
  pub kept : AreKept members products sums rows
  pub linked : AreLinked members products by_product by_pair spare rows

-- on the way through a plan: the new trades of a product may stand there before as much of it has fallen
abbrev pub IsPassing : List TradeRow → Type 0
IsPassing rows = (product : ℕ) → gross_of product rows ≤ 2 * gross_limit

-- how many trades a step adds
abbrev pub added_by : PlanRow → ℕ
added_by step = if is_new step then 1 else 0
