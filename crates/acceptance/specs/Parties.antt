-- That the members of a plan's steps are below a number, and its trades are there.
use Rattle.std.specs.Prelude.{ℕ, ◌<◌, List, Option, Some, None, All}
use Rattle.command_types.specs.declared.plan.PlanRow.{PlanRow}
use Rattle.command_types.specs.declared.plan.PlanRow.TheVariants.{End, Cut, New}
use Rattle.command_types.specs.declared.trade.TradeRow.{TradeRow}
use Rattle.command_types.specs.Trades.{trade_numbered}

-- there is a trade, between members below n
abbrev pub HasPartiesBelow : ℕ → Option TradeRow → Type 0
HasPartiesBelow n None = ⊥
HasPartiesBelow n (Some row) = (row.seller < n) × (row.buyer < n)

-- an ended or cut trade is there, and the step's parties are below n
abbrev pub IsStepBelow : List TradeRow → ℕ → PlanRow → Type 0
IsStepBelow rows n (End trade) = HasPartiesBelow n (trade_numbered rows trade)
IsStepBelow rows n (Cut trade from to) = HasPartiesBelow n (trade_numbered rows trade)
IsStepBelow rows n (New product seller buyer amount day) = (seller < n) × (buyer < n)

abbrev pub IsPlanBelow : List TradeRow → ℕ → List PlanRow → Type 0
IsPlanBelow rows n plan = All (IsStepBelow rows n) plan
