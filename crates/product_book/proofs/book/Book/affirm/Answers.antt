use Rattle.std.proofs.Common.{IsTrue, subst, sym, arith}
use Rattle.command_types.specs.Trades.{live_row}
use Rattle.product_book.specs.Book.{may_affirm}
use Rattle.product_book.proofs.BookFacts.{live_keeps, alleged_counts}
use Rattle.product_book.proofs.SumFacts.{can_change, changed_with_sums}
use Rattle.product_book.proofs.LinkedFacts.{linked_kept}
use Rattle.product_book.proofs.book.Book.affirm.Goals as goal

pub settle-requires : goal.settle-requires
settle-requires c =
    let there = rw c.deref.ensures.value at c.row_at-row.ensures in
    let alleged = subst (λ o. IsTrue (may_affirm o)) there (rw (← c.self.view_is) at c.requires) in
    rw c.live-agreed.ensures (can_change c.self.inside.sums.members c.self.inside.products c.self.inside.submitted c.self.inside.sums c.self.inside.rows.items c.self.invariant.summed c.args.trade c.row_at-row.result (live_row c.row_at-row.result) there (live_keeps c.row_at-row.result alleged))

pub invariant_of-self : goal.invariant_of-self
invariant_of-self c =
    let there = rw c.deref.ensures.value at c.row_at-row.ensures in
    let alleged = subst (λ o. IsTrue (may_affirm o)) there (rw (← c.self.view_is) at c.requires) in
    record {
      summed =
          rw (c.put_row.ensures.items, c.live-agreed.ensures)
          (changed_with_sums c.self.inside.sums.members c.self.inside.products c.self.inside.submitted c.self.inside.sums c.self.inside.rows.items c.self.invariant.summed c.args.trade c.row_at-row.result (live_row c.row_at-row.result) there (live_keeps c.row_at-row.result alleged) c.settle.new.self c.settle.ensures.members_is (rw c.live-agreed.ensures at c.settle.ensures));
      linked =
          rw (c.put_row.ensures.items, c.settle.ensures.members_is, c.live-agreed.ensures)
          (linked_kept c.self.inside.sums.members c.self.inside.products c.self.inside.links.by_product c.self.inside.links.by_pair c.self.inside.links.spare c.self.inside.rows.items c.self.invariant.linked c.args.trade c.row_at-row.result (live_row c.row_at-row.result) there (live_keeps c.row_at-row.result alleged) (sym (alleged_counts c.row_at-row.result.state alleged)));
      room = omega (arith, c.put_row.ensures.len, c.put_row.ensures.capacity, c.self.invariant.room);
    }
