use Rattle.std.proofs.Common.{◌≡◌, length}
use Rattle.command_types.specs.Books.{listed_below}
use Rattle.file_market.specs.Untouched.{market_row}
use Rattle.file_market.proofs.untouched.untouched_rows.Given as goal

abbrev pub invariant-loop-seller : goal.invariant-loop-seller
invariant-loop-seller l =
    l.rows.items ≡ listed_below l.seller (λ i. listed_below (length l.members) (market_row l.fn.mode l.members l.network i))
