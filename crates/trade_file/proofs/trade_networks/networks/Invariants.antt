use Rattle.std.proofs.Common.{◌≡◌, ℕ, ◌<◌, length, get_or}
use Rattle.network_laws.specs.Networks.{NetworkData}
use Rattle.trade_file.specs.Networks.{IsNetworkOf}
use Rattle.trade_file.proofs.trade_networks.networks.Given as goal

abbrev pub invariant-loop-product : goal.invariant-loop-product
invariant-loop-product l = record {
  count : length l.networks.items ≡ l.product;
  each : (k : ℕ) (d : NetworkData) → k < length l.networks.items → IsNetworkOf l.fn.roster l.fn.trades k (get_or l.networks.items k d);
  members : l.table.members ≡ length l.fn.roster.members;
}
