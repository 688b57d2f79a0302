use Rattle.std.proofs.Common.{arith}
use Rattle.command_types.specs.Trades.{counts, row_ended_by}
use Rattle.product_book.proofs.BookFacts.{ended_keeps}
use Rattle.product_book.proofs.SumFacts.{can_change, changed_with_sums}
use Rattle.product_book.proofs.LinkedFacts.{linked_kept, linked_left, not_counted, both_count}
use Rattle.product_book.proofs.book.Book.end_by.Goals as goal

pub settle-requires : goal.settle-requires
settle-requires c =
    let there = rw c.deref.ensures.value at c.row_at-row.ensures in
    rw c.ended_by-asked.ensures (can_change c.self.inside.sums.members c.self.inside.products c.self.inside.submitted c.self.inside.sums c.self.inside.rows.items c.self.invariant.summed c.args.trade c.row_at-row.result (row_ended_by c.args.side c.row_at-row.result) there (ended_keeps c.args.side c.row_at-row.result))

pub invariant_of-self : goal.invariant_of-self
invariant_of-self c =
    let there = rw c.deref.ensures.value at c.row_at-row.ensures in
    record {
      summed =
          rw (c.put_row.ensures.items, c.ended_by-asked.ensures)
          (changed_with_sums c.self.inside.sums.members c.self.inside.products c.self.inside.submitted c.self.inside.sums c.self.inside.rows.items c.self.invariant.summed c.args.trade c.row_at-row.result (row_ended_by c.args.side c.row_at-row.result) there (ended_keeps c.args.side c.row_at-row.result) c.settle.new.self c.settle.ensures.members_is (rw c.ended_by-asked.ensures at c.settle.ensures));
      linked =
          rw (c.put_row.ensures.items, c.settle.ensures.members_is, c.ended_by-asked.ensures)
          (linked_left c.self.inside.sums.members c.self.inside.products c.self.inside.links.by_product c.self.inside.links.by_pair c.self.inside.links.spare c.self.inside.rows.items c.self.invariant.linked c.leave.new.self.by_product c.leave.new.self.by_pair c.leave.new.self.spare c.args.trade c.row_at-row.result (row_ended_by c.args.side c.row_at-row.result) c.leave.ensures.products c.leave.ensures.pairs
          c.self.invariant.summed.book.trades there (not_counted (counts (row_ended_by c.args.side c.row_at-row.result).state) (rw c.ended_by-asked.ensures at c.if-has_ended.ensures)) c.leave.ensures.spare);
      room = omega (arith, c.put_row.ensures.len, c.put_row.ensures.capacity, c.self.invariant.room, c.leave.ensures.spare);
    }

pub invariant_of-self-else-has_ended : goal.invariant_of-self-else-has_ended
invariant_of-self-else-has_ended c =
    let there = rw c.deref.ensures.value at c.row_at-row.ensures in
    record {
      summed =
          rw (c.put_row.ensures.items, c.ended_by-asked.ensures)
          (changed_with_sums c.self.inside.sums.members c.self.inside.products c.self.inside.submitted c.self.inside.sums c.self.inside.rows.items c.self.invariant.summed c.args.trade c.row_at-row.result (row_ended_by c.args.side c.row_at-row.result) there (ended_keeps c.args.side c.row_at-row.result) c.settle.new.self c.settle.ensures.members_is (rw c.ended_by-asked.ensures at c.settle.ensures));
      linked =
          rw (c.put_row.ensures.items, c.settle.ensures.members_is, c.ended_by-asked.ensures)
          (linked_kept c.self.inside.sums.members c.self.inside.products c.self.inside.links.by_product c.self.inside.links.by_pair c.self.inside.links.spare c.self.inside.rows.items c.self.invariant.linked c.args.trade c.row_at-row.result (row_ended_by c.args.side c.row_at-row.result) there (ended_keeps c.args.side c.row_at-row.result)
          (both_count c.row_at-row.result (row_ended_by c.args.side c.row_at-row.result) (ended_keeps c.args.side c.row_at-row.result) (rw c.ended_by-asked.ensures at c.if-has_ended.ensures)));
      room = omega (arith, c.put_row.ensures.len, c.put_row.ensures.capacity, c.self.invariant.room);
    }
