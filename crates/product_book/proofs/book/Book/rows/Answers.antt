use Rattle.product_book.proofs.book.Book.rows.Goals as goal

pub returns-clause-trades : goal.returns-clause-trades
returns-clause-trades c = rw (← c.self.view_is) c.self.invariant.summed.book.trades

pub returns-clause-bounded : goal.returns-clause-bounded
returns-clause-bounded c = λ product. rw (← c.self.view_is) (c.self.invariant.summed.book.bounded product)
