use Rattle.product_book.proofs.NetworkFacts.{parties_of}
use Rattle.product_book.proofs.LinkedFacts.{product_numbers}
use Rattle.product_book.proofs.book.Book.network.Goals as goal

pub network_of-requires-clause-parties : goal.network_of-requires-clause-parties
network_of-requires-clause-parties c =
    rw c.deref.ensures.value (parties_of c.self.inside.sums.members c.self.inside.products 1 c.self.inside.rows.items c.self.invariant.summed.book.trades)

pub network_of-requires-clause-bound : goal.network_of-requires-clause-bound
network_of-requires-clause-bound c = rw c.deref.ensures.value (c.self.invariant.summed.book.bounded c.args.product)

pub network_of-requires-clause-count : goal.network_of-requires-clause-count
network_of-requires-clause-count c = rw c.deref.ensures.value (rw (← c.self.view_is) at c.requires)

pub network_of-requires-clause-there : goal.network_of-requires-clause-there
network_of-requires-clause-there c = rw c.deref.ensures.value (product_numbers c.self.inside.sums.members c.self.inside.products c.self.inside.links.by_product c.self.inside.links.by_pair c.self.inside.links.spare c.args.product c.self.inside.rows.items c.self.invariant.linked c.self.invariant.summed.book.trades).1

pub network_of-requires-clause-open : goal.network_of-requires-clause-open
network_of-requires-clause-open c = rw c.deref.ensures.value (product_numbers c.self.inside.sums.members c.self.inside.products c.self.inside.links.by_product c.self.inside.links.by_pair c.self.inside.links.spare c.args.product c.self.inside.rows.items c.self.invariant.linked c.self.invariant.summed.book.trades).0
