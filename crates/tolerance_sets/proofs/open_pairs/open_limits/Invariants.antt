use Rattle.std.proofs.Common.{◌≡◌, length}
use Rattle.command_types.specs.Books.{listed_below}
use Rattle.tolerance_sets.specs.Market.{market_limit}
use Rattle.tolerance_sets.specs.OpenPairs.{AreOpenRows}
use Rattle.tolerance_sets.proofs.open_pairs.open_limits.Given as goal

abbrev pub invariant-loop-seller : goal.invariant-loop-seller
invariant-loop-seller l = record {
  rows : l.rows.items ≡ listed_below l.seller (λ i. listed_below (length l.market.members.now) (market_limit l.market i));
  template : AreOpenRows l.template;
  members : length l.template.rows.items ≡ length l.market.members.now;
}
