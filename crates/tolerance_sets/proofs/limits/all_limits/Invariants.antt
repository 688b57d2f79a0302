use Rattle.std.proofs.Common.{◌≡◌}
use Rattle.command_types.specs.Books.{listed_below}
use Rattle.tolerance_sets.specs.Market.{market_limit}
use Rattle.tolerance_sets.proofs.limits.all_limits.Given as goal

abbrev pub invariant-loop-seller : goal.invariant-loop-seller
invariant-loop-seller l =
    l.rows.items ≡ listed_below l.seller (λ i. listed_below l.members (market_limit l.market i))
