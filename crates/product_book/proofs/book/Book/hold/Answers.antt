use Rattle.std.proofs.Common.{ap, true, arith}
use Rattle.command_types.specs.Trades.{counts, row_with_hold}
use Rattle.product_book.proofs.BookFacts.{hold_keeps, hold_state}
use Rattle.product_book.proofs.SumFacts.{held_with_sums}
use Rattle.product_book.proofs.LinkedFacts.{linked_kept}
use Rattle.product_book.proofs.book.Book.hold.Goals as goal

pub invariant_of-self : goal.invariant_of-self
invariant_of-self c =
    let there = rw c.deref.ensures.value at c.row_at-row.ensures in
    record {
      summed =
          rw (c.put_row.ensures.items, c.with_hold.ensures)
          (held_with_sums c.self.inside.sums.members c.self.inside.products c.self.inside.submitted c.self.inside.sums c.self.inside.rows.items c.self.invariant.summed c.args.trade c.row_at-row.result (row_with_hold true c.args.side c.row_at-row.result) there (hold_keeps true c.args.side c.row_at-row.result) (hold_state true c.args.side c.row_at-row.result));
      linked =
          rw (c.put_row.ensures.items, c.with_hold.ensures)
          (linked_kept c.self.inside.sums.members c.self.inside.products c.self.inside.links.by_product c.self.inside.links.by_pair c.self.inside.links.spare c.self.inside.rows.items c.self.invariant.linked c.args.trade c.row_at-row.result (row_with_hold true c.args.side c.row_at-row.result) there (hold_keeps true c.args.side c.row_at-row.result) (ap counts (hold_state true c.args.side c.row_at-row.result)));
      room = omega (arith, c.put_row.ensures.len, c.put_row.ensures.capacity, c.self.invariant.room);
    }
