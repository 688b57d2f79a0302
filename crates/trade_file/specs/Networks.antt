-- The networks of trades.
use Rattle.std.specs.Prelude.{◌≡◌, ℕ, ◌<◌, ◌==◌, ◌&&◌, List, length, sum_by, slice_index_or, if◌then◌else◌}
use Rattle.network_laws.specs.Networks.{NetworkData, IsNetwork, at}
use Rattle.command_types.specs.Roster.{Rows}
use Rattle.trade_file.specs.declared.file_trade.FileTrade.{FileTrade}

-- what one trade has for a product, a seller and a buyer
abbrev pub trade_part : ℕ → ℕ → ℕ → FileTrade → ℕ
trade_part product seller buyer trade =
    if trade.product == product && trade.seller == seller && trade.buyer == buyer then trade.amount else 0

-- the sum of a product's trades from a seller to a buyer
abbrev pub pair_total : List FileTrade → ℕ → ℕ → ℕ → ℕ
pair_total trades product seller buyer = sum_by (trade_part product seller buyer) trades

-- the network has for each pair of members the sum of the product's trades, and no other rows
pub record IsNetworkOf (rows : Rows) (trades : List FileTrade) (product : ℕ) (network : NetworkData) : Type 0 where
  pub members : network.members ≡ length rows.members
  pub good : IsNetwork network
  pub amounts : (i j : ℕ) → i < length rows.members → j < length rows.members → at network i j ≡ pair_total trades product i j

-- one network for each product, in order
pub record AreNetworksOf (rows : Rows) (trades : List FileTrade) (networks : List NetworkData) : Type 0 where
  pub count : length networks ≡ length rows.products
  pub each : (product : ℕ) (d : NetworkData) → product < length networks → IsNetworkOf rows trades product (slice_index_or networks product d)
