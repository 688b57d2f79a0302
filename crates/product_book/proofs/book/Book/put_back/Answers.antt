use Rattle.std.proofs.Common.{subst, arith}
use Rattle.product_book.specs.Book.{MayPutBack}
use Rattle.product_book.proofs.BookFacts.{back_keeps}
use Rattle.product_book.proofs.SumFacts.{can_change, changed_with_sums}
use Rattle.product_book.proofs.LinkedFacts.{linked_kept}
use Rattle.product_book.proofs.book.Book.put_back.Goals as goal

pub settle-requires : goal.settle-requires
settle-requires c =
    let there = rw c.deref.ensures.value at c.row_at-row.ensures in
    let earlier = subst (λ o. MayPutBack o c.args.was.now) there (rw (← c.self.view_is) at c.requires) in
    can_change c.self.inside.sums.members c.self.inside.products c.self.inside.submitted c.self.inside.sums c.self.inside.rows.items c.self.invariant.summed c.args.trade c.row_at-row.result c.args.was.now there (back_keeps c.row_at-row.result c.args.was.now earlier)

pub invariant_of-self : goal.invariant_of-self
invariant_of-self c =
    let there = rw c.deref.ensures.value at c.row_at-row.ensures in
    let earlier = subst (λ o. MayPutBack o c.args.was.now) there (rw (← c.self.view_is) at c.requires) in
    let keeps = back_keeps c.row_at-row.result c.args.was.now earlier in
    record {
      summed =
          rw c.put_row.ensures.items
          (changed_with_sums c.self.inside.sums.members c.self.inside.products c.self.inside.submitted c.self.inside.sums c.self.inside.rows.items c.self.invariant.summed c.args.trade c.row_at-row.result c.args.was.now there keeps c.settle.new.self c.settle.ensures.members_is c.settle.ensures);
      linked =
          rw (c.put_row.ensures.items, c.settle.ensures.members_is)
          (linked_kept c.self.inside.sums.members c.self.inside.products c.self.inside.links.by_product c.self.inside.links.by_pair c.self.inside.links.spare c.self.inside.rows.items c.self.invariant.linked c.args.trade c.row_at-row.result c.args.was.now there keeps earlier.counts);
      room = omega (arith, c.put_row.ensures.len, c.put_row.ensures.capacity, c.self.invariant.room);
    }
