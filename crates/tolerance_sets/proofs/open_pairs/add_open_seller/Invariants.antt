use Rattle.std.proofs.Common.{◌≡◌, ◌+◌, ◌*◌, ◌-◌, ◌≤◌, ◌++◌, length}
use Rattle.network_laws.specs.Networks.{IsCursor}
use Rattle.command_types.specs.Books.{listed_below}
use Rattle.tolerance_sets.specs.Market.{market_limit}
use Rattle.tolerance_sets.proofs.open_pairs.add_open_seller.Given as goal

abbrev pub invariant-loop-from : goal.invariant-loop-from
invariant-loop-from l = record {
  rows : l.rows.items ≡ l.initial.rows.items ++ listed_below l.from (market_limit l.market l.template.seller);
  within : l.from ≤ length l.market.members.now;
  row_end : l.row_at ≤ length l.market.network.now;
  row : IsCursor l.market.network.now l.row_at (l.template.seller * 65536 + l.from);
}

abbrev pub decreases-loop-from : goal.decreases-loop-from
decreases-loop-from l = length l.market.members.now - l.from
