use Rattle.std.proofs.Common.{◌≡◌, ◌-◌, ◌≤◌, ◌++◌}
use Rattle.command_types.specs.Books.{listed_below}
use Rattle.tolerance_sets.specs.Market.{IsAtPair, KnowsGrowing, market_limit}
use Rattle.tolerance_sets.proofs.limits.add_seller.Given as goal

abbrev pub invariant-loop-pair : goal.invariant-loop-pair
invariant-loop-pair l = record {
  rows : l.rows.items ≡ l.initial.rows.items ++ listed_below l.pair.buyer (market_limit l.market l.seller);
  pair : IsAtPair l.market l.pair;
  growing : KnowsGrowing l.market l.pair;
  ahead : l.pair.buyer ≤ l.pair.growing;
  seller : l.pair.seller ≡ l.seller;
}

abbrev pub decreases-loop-pair : goal.decreases-loop-pair
decreases-loop-pair l = l.members - l.pair.buyer
