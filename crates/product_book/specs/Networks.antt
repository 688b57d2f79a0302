-- The network of a product's trades.
use Rattle.std.specs.Prelude.{◌≡◌, ◌≢◌, ℕ, ◌<◌, ◌≤◌, ◌&&◌, Bool, List}
use Rattle.network_laws.specs.Networks.{NetworkData, at}
use Rattle.command_types.specs.declared.trade.TradeRow.{TradeRow}
use Rattle.command_types.specs.Trades.{is_live}
use Rattle.command_types.specs.Books.{is_held, live_network, frozen_network, held_network}
use Rattle.product_book.specs.declared.networks.Which.{Which}
use Rattle.product_book.specs.declared.networks.Which.TheVariants.{Live, Frozen, FrozenHeld}
use Rattle.product_book.specs.Freezes.{FrozenCount}

-- the trade is of this kind
abbrev pub is_among : Which → TradeRow → Bool
is_among Live row = is_live row.state
is_among Frozen row = row.frozen
is_among FrozenHeld row = row.frozen && is_held row

-- each trade of the kind counts for its product's gross: live ones always do
abbrev pub AllCount : Which → List TradeRow → Type 0
AllCount Live rows = Unit {0}
AllCount Frozen rows = FrozenCount rows
AllCount FrozenHeld rows = FrozenCount rows

-- the network of a product's trades of this kind
abbrev pub network_of : Which → ℕ → ℕ → List TradeRow → NetworkData
network_of Live members product rows = live_network members product rows
network_of Frozen members product rows = frozen_network members product rows
network_of FrozenHeld members product rows = held_network members product rows

-- the network of what is held has the same members as that of the frozen trades, and no more in any pair
abbrev pub HeldIsWithinFrozen : Type 0
HeldIsWithinFrozen =
    (members product : ℕ) (rows : List TradeRow) → ((held_network members product rows).members ≡ members)
    × ((i j : ℕ) → at (held_network members product rows) i j ≤ at (frozen_network members product rows) i j)

-- the trade's parties are two different members
pub record HasParties (members : ℕ) (row : TradeRow) : Type 0 where
  pub seller : row.seller < members
  pub buyer : row.buyer < members
  pub different : row.seller ≢ row.buyer
