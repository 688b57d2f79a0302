use Rattle.std.proofs.Common.{◌≡◌, arith}
use Rattle.session.proofs.RowSumFacts.{places_differ}
use Rattle.session.proofs.product_network.add_row.Goals as goal

pub add-requires-clause-different : goal.add-requires-clause-different
add-requires-clause-different c =
    places_differ c.args.roster.now.members c.args.key.now.seller c.args.key.now.buyer c.in-Some.seller c.in-Some-place_of.buyer c.args.amount c.in-Some.ensures c.in-Some-place_of.ensures c.requires.parties (λ (e : c.args.amount ≡ 0). omega arith)
