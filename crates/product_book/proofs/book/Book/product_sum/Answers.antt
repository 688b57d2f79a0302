use Rattle.product_book.proofs.SumFacts.{product_read}
use Rattle.product_book.proofs.book.Book.product_sum.Goals as goal

pub returns-clause-sum : goal.returns-clause-sum
returns-clause-sum c = rw (← c.self.view_is, c.of_product.ensures, c.index.ensures) (product_read c.self.inside.sums.members c.self.inside.products c.self.inside.submitted c.self.inside.sums c.self.inside.rows.items c.self.invariant.summed c.args.product)

pub returns-clause-most : goal.returns-clause-most
returns-clause-most c =
    rw (c.of_product.ensures, c.index.ensures, product_read c.self.inside.sums.members c.self.inside.products c.self.inside.submitted c.self.inside.sums c.self.inside.rows.items c.self.invariant.summed c.args.product) (c.self.invariant.summed.book.bounded c.args.product)
