use Rattle.std.proofs.Common.{◌-◌, ◌<◌, arith}
use Rattle.product_book.proofs.PlaceFacts.{copied_get}
use Rattle.product_book.proofs.BookFacts.{found_trade}
use Rattle.product_book.proofs.book.Book.get.Goals as goal

pub returns-clause-sound : goal.returns-clause-sound
returns-clause-sound c =
    let found = copied_get c.deref.result.now (c.args.trade - 1) c.get.result c.get.ensures.lookup.0 c.get.ensures.lookup.1 in
    rw (← c.self.view_is)
    (found_trade c.self.inside.sums.members c.self.inside.products c.self.inside.submitted c.self.inside.rows.items c.args.trade c.get.result c.self.invariant.summed.book (let above : 0 < c.args.trade = omega arith in above) (rw c.deref.ensures.value at found))
