-- The laws of postings, as statements.
use Rattle.std.specs.Prelude.{◌≡◌, ℕ, ◌<◌, ◌≤◌, List, All, length, slice_get, Some, None}
use Rattle.units_core.specs.Day.{DayParts}
use Rattle.network_laws.specs.Networks.{NetworkData}
use Rattle.network_laws.specs.Limits.{IsLeast}
use Rattle.network_laws.specs.Solutions.{SolutionData, IsSolution, ProblemData}
use Rattle.command_types.specs.declared.cycle.Mode.{Mode}
use Rattle.command_types.specs.declared.figures.State.{State}
use Rattle.command_types.specs.declared.plan.PlanRow.{PlanRow}
use Rattle.command_types.specs.declared.tolerance.ToleranceRow.{ToleranceRow}
use Rattle.command_types.specs.declared.trade.TradeRow.{TradeRow}
use Rattle.command_types.specs.Roster.{Rows}
use Rattle.command_types.specs.Trades.{gross_of}
use Rattle.command_types.specs.Plans.{plan_of, executed}
use Rattle.command_types.specs.Cycles.{problems_of, old_networks, new_networks, bad_post}
use Rattle.command_types.specs.Execution.{IsExecutable}
use Rattle.acceptance.specs.Parties.{IsPlanBelow}
use Rattle.acceptance.specs.Renewals.{IsLiveIfFrozen}
use Rattle.acceptance.specs.Laws.{position, frozen_of}
use Rattle.product_book.specs.Book.{AreTrades}
use Rattle.units_core.specs.declared.limits.TheConstants.{MOST_GROSS, MOST_MEMBERS, MOST_PRODUCTS}

-- a roster's trades, of which the frozen ones are live
pub record IsFrozenMarket (roster : Rows) (rows : List TradeRow) : Type 0 where
  pub few_members : length roster.members ≤ MOST_MEMBERS
  pub few_products : length roster.products ≤ MOST_PRODUCTS
  pub trades : AreTrades (length roster.members) (length roster.products) 1 rows
  pub bounded : (product : ℕ) → gross_of product rows ≤ MOST_GROSS
  pub live : All IsLiveIfFrozen rows

-- solutions of the problems that these settings give, and nothing is wrong with them
pub record IsPosting (roster : Rows) (rows : List TradeRow) (settings : List ToleranceRow) (mode : Mode) (solutions : List SolutionData) : Type 0 where
  pub market : IsFrozenMarket roster rows
  pub each : All IsSolution solutions
  pub certified : bad_post (length roster.members) (problems_of roster rows settings mode) solutions ≡ None

-- what they change
abbrev pub plan_posted : Rows → List TradeRow → List ToleranceRow → Mode → List SolutionData → DayParts → List PlanRow
plan_posted roster rows settings mode solutions day = plan_of rows (old_networks (problems_of roster rows settings mode)) (new_networks solutions) day

-- the plan can be executed, and then every position stands and no product's gross has grown
pub record IsSettled (members products : ℕ) (rows : List TradeRow) (plan : List PlanRow) : Type 0 where
  pub executable : IsExecutable members products rows plan
  pub parties : IsPlanBelow rows members plan
  pub positions : (product member : ℕ) → product < products → member < members → position product member (executed plan rows) ≡ position product member rows
  pub gross : (product : ℕ) → gross_of product (executed plan rows) ≤ gross_of product rows

-- every member's position in every product is the same in both states, and no product's gross has grown
pub record KeepsNets (roster : Rows) (before after : State) : Type 0 where
  pub positions : (product member : ℕ) → product < length roster.products → member < length roster.members → position product member after.trades ≡ position product member before.trades
  pub gross : (product : ℕ) → gross_of product after.trades ≤ gross_of product before.trades

-- each solution's network has the least gross that its problem allows
abbrev pub AreLeast : List ProblemData → List SolutionData → Type 0
AreLeast problems solutions =
    (product : ℕ) (problem : ProblemData) (solution : SolutionData) → slice_get problems product ≡ Some problem → slice_get solutions product ≡ Some solution →
    IsLeast problem.limits problem.network solution.network

abbrev pub PostingCanBeExecuted : Type 0
PostingCanBeExecuted =
    (roster : Rows) (rows : List TradeRow) (settings : List ToleranceRow) (mode : Mode) (solutions : List SolutionData) (day : DayParts) → IsPosting roster rows settings mode solutions →
    IsSettled (length roster.members) (length roster.products) rows (plan_posted roster rows settings mode solutions day) × AreLeast (problems_of roster rows settings mode) solutions

-- a version began with these problems, under settings and in a mode of that time
pub record AreBegun (roster : Rows) (rows : List TradeRow) (problems : List ProblemData) : Type 0 where
  pub settings : List ToleranceRow
  pub mode : Mode
  pub same : problems ≡ problems_of roster rows settings mode

-- two lists of trades have the same problems, and networks the same plan on them
pub record HasSamePosting (rows other : List TradeRow) : Type 0 where
  pub problems : (roster : Rows) (settings : List ToleranceRow) (mode : Mode) → problems_of roster rows settings mode ≡ problems_of roster other settings mode
  pub plan : (old new : List NetworkData) (day : DayParts) → plan_of rows old new day ≡ plan_of other old new day

-- that is so where their frozen trades are the same but for the marks
abbrev pub PlanStays : Type 0
PlanStays = (rows other : List TradeRow) → frozen_of rows ≡ frozen_of other → HasSamePosting rows other
