use Rattle.std.proofs.Common.{◌+◌, length, arith, refl}
use Rattle.command_types.specs.Trades.{alleged_row}
use Rattle.product_book.proofs.BookFacts.{submitted_le}
use Rattle.product_book.proofs.SumFacts.{can_allege, alleged_with_sums}
use Rattle.product_book.proofs.LinkedFacts.{entered_pair, linked_entered}
use Rattle.product_book.proofs.book.Book.allege.Goals as goal

pub enter-requires : goal.enter-requires
enter-requires c =
    can_allege c.self.inside.sums.members c.self.inside.products c.self.inside.submitted c.self.inside.sums c.self.inside.rows.items c.self.invariant.summed _ (cc)
    (record { number = omega arith; product = rw (← c.self.view_is) at c.requires.product; seller = rw (← c.self.view_is) at c.requires.seller; buyer = rw (← c.self.view_is) at c.requires.buyer; different = c.requires.different })
    (rw (← c.self.view_is) at c.requires.bound)

pub enter-requires-2-clause-place : goal.enter-requires-2-clause-place
enter-requires-2-clause-place c =
    rw c.enter.ensures.members_is
    (entered_pair c.self.inside.sums.members c.self.inside.products c.self.inside.links.by_product c.self.inside.links.by_pair c.self.inside.links.spare c.self.inside.rows.items c.self.invariant.linked (length c.self.inside.rows.items + 1) (alleged_row (c.len.result + 1) c.args.seller c.args.buyer c.args.product c.args.amount c.args.day c.args.submitter)
    (record { number = omega arith; product = rw (← c.self.view_is) at c.requires.product; seller = rw (← c.self.view_is) at c.requires.seller; buyer = rw (← c.self.view_is) at c.requires.buyer; different = c.requires.different }))

pub invariant_of-self : goal.invariant_of-self
invariant_of-self c =
    record {
      summed =
          rw c.append.ensures.items
          (alleged_with_sums c.self.inside.sums.members c.self.inside.products c.self.inside.submitted c.self.inside.sums c.self.inside.rows.items c.self.invariant.summed _ (cc)
          (record { number = omega arith; product = rw (← c.self.view_is) at c.requires.product; seller = rw (← c.self.view_is) at c.requires.seller; buyer = rw (← c.self.view_is) at c.requires.buyer; different = c.requires.different })
          (rw (← c.self.view_is) at c.requires.bound) c.enter.new.self c.enter.ensures.members_is c.enter.ensures);
      linked =
          rw (c.append.ensures.items, c.enter.ensures.members_is)
          (linked_entered c.self.inside.sums.members c.self.inside.products c.self.inside.links.by_product c.self.inside.links.by_pair c.self.inside.links.spare c.self.inside.rows.items c.self.invariant.linked c.enter-2.new.self.by_product c.enter-2.new.self.by_pair c.enter-2.new.self.spare _ c.enter-2.ensures.products (rw c.enter.ensures.members_is at c.enter-2.ensures.pairs)
          (record { number = omega arith; product = rw (← c.self.view_is) at c.requires.product; seller = rw (← c.self.view_is) at c.requires.seller; buyer = rw (← c.self.view_is) at c.requires.buyer; different = c.requires.different })
          refl (rw (← c.self.view_is) at c.requires.room) c.enter-2.ensures.spare);
      room = omega (arith, c.enter-2.ensures.spare, c.append.ensures.len, c.append.ensures.capacity, c.self.invariant.room);
    }

pub overflow_add-self : goal.overflow_add-self
overflow_add-self c =
    let few = submitted_le c.self.inside.rows.items in
    let same = c.self.invariant.summed.book.counted in
    omega arith
