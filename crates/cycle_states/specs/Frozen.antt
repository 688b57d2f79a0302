-- What is kept of a freeze, and for how long: its networks, and its free trades.
use Rattle.std.specs.Prelude.{◌≡◌, ℕ, ◌<◌, List, [], Option, Some, None, length, get_or, IsTrue}
use Rattle.command_types.specs.declared.cycle.Phase.{Phase}
use Rattle.command_types.specs.declared.trade.TradeRow.{TradeRow}
use Rattle.command_types.specs.Books.{frozen_network, held_network}
use Rattle.command_types.specs.Cycles.{may_break}
use Rattle.acceptance.specs.Planning.{HasPlansOf}
use Rattle.cycle_states.specs.declared.machine.effect.Effect.{Effect}
use Rattle.cycle_states.specs.declared.machine.effect.Effect.TheVariants as effect
use Rattle.cycle_states.specs.declared.machine.frozen.FrozenProduct.{FrozenProduct}

-- the two networks of a product
abbrev pub frozen_product : ℕ → ℕ → List TradeRow → FrozenProduct
frozen_product members product rows = record { network = frozen_network members product rows; held = held_network members product rows }

-- each of them is of these trades, in the order of the products
abbrev pub AreFrozenOf : ℕ → List TradeRow → List FrozenProduct → Type 0
AreFrozenOf members rows kept = (product : ℕ) (d : FrozenProduct) → product < length kept → get_or kept product d ≡ frozen_product members product rows

-- the free trades, where they are kept, have the plans of these trades
abbrev pub HaveTheirPlans : List TradeRow → Option (List TradeRow) → Type 0
HaveTheirPlans rows None = Unit {0}
HaveTheirPlans rows (Some free) = HasPlansOf rows free

-- the networks of products, of all or of none, and the free trades
pub record FrozenView : Type 0 where
  pub networks : List FrozenProduct
  pub free : Option (List TradeRow)

-- both are of these trades
pub record IsFrozenOf (members : ℕ) (rows : List TradeRow) (frozen : FrozenView) : Type 0 where
  pub networks : AreFrozenOf members rows frozen.networks
  pub free : HaveTheirPlans rows frozen.free

-- as long as the cycle may break, what is kept is of the trades that are frozen now
abbrev pub AreOfFreeze : ℕ → List TradeRow → Phase → FrozenView → Type 0
AreOfFreeze members rows phase frozen = IsTrue (may_break phase) → IsFrozenOf members rows frozen

-- nothing
abbrev pub none_frozen : FrozenView
none_frozen = record { networks = []; free = None }

-- what is kept once this is done: a freeze begins with nothing, and nothing is left of one that is over
abbrev pub kept_with : Effect → FrozenView → FrozenView
kept_with (effect.Freeze day) kept = none_frozen
kept_with (effect.Execute plan) kept = none_frozen
kept_with effect.Complete kept = none_frozen
kept_with effect.Cancel kept = none_frozen
kept_with other kept = kept
