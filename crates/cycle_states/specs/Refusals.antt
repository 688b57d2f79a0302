-- The refusals of a TRADE that its product and the other trades tell.
use Rattle.std.specs.Prelude.{ℕ, ◌+◌, nat_lt, nat_le, Bool, List, [], ◌∷◌, slice_get}
use Rattle.units_core.specs.Day.{DayParts}
use Rattle.units_core.specs.declared.limits.TheConstants.{MOST_GROSS, MOST_SUBMITTED}
use Rattle.command_types.specs.declared.figures.State.{State}
use Rattle.command_types.specs.declared.refusal.Refusal.{Refusal}
use Rattle.command_types.specs.declared.refusal.Refusal.TheVariants.{GrossOver, TradesFull}
use Rattle.command_types.specs.Machine.{maturity_refusal}
use Rattle.command_types.specs.Trades.{gross_of, submitted_count}

-- the last three refusals of a TRADE, by its product's place
abbrev pub product_refusals : State → ℕ → ℕ → DayParts → List (Bool × Refusal)
product_refusals s product amount day =
    maturity_refusal (slice_get s.roster.products product) day
    ∷ (nat_lt MOST_GROSS (gross_of product s.trades + amount), GrossOver)
    ∷ (nat_le MOST_SUBMITTED (submitted_count s.trades), TradesFull)
    ∷ []
