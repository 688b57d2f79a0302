use Rattle.std.proofs.Common.{ℕ, sym, subst, arith}
use Rattle.product_book.specs.Kept.{IsSummedBook}
use Rattle.product_book.proofs.ExecutionFacts.{steps_run, steps_made, book_executed}
use Rattle.product_book.proofs.PassingFacts.{passes}
use Rattle.product_book.proofs.book.Book.execute.Goals as goal

pub execute-requires-clause-steps : goal.execute-requires-clause-steps
execute-requires-clause-steps c =
    steps_run c.self.inside.sums.members c.self.inside.products c.self.inside.submitted c.self.inside.rows.items c.args.plan.now c.self.invariant.summed.book (rw (← c.self.view_is) at c.requires.plan)

pub execute-requires-clause-made : goal.execute-requires-clause-made
execute-requires-clause-made c =
    rw c.self.invariant.linked.product_count (steps_made c.self.inside.sums.members c.self.inside.products c.self.inside.rows.items c.args.plan.now (rw (← c.self.view_is) at c.requires.plan))

pub execute-requires-clause-passing : goal.execute-requires-clause-passing
execute-requires-clause-passing c =
    let may = rw (← c.self.view_is) at c.requires.plan in
    passes c.self.inside.sums.members c.self.inside.products c.self.inside.rows.items c.args.plan.now may.steps c.self.invariant.summed.book.bounded may.bounded

pub execute-requires-clause-running : goal.execute-requires-clause-running
execute-requires-clause-running c =
    rw c.self.invariant.linked.product_count
    (record {
      few = c.self.invariant.summed.book.few_members;
      few_products = c.self.invariant.summed.book.few_products;
      trades = c.self.invariant.summed.book.trades;
      kept = c.self.invariant.summed.kept;
      linked = c.self.invariant.linked;
    })

pub invariant_of-self : goal.invariant_of-self
invariant_of-self c =
    let after = book_executed c.self.inside.sums.members c.self.inside.products c.self.inside.submitted c.self.inside.rows.items c.args.plan.now c.self.invariant.summed.book (rw (← c.self.view_is) at c.requires.plan) in
    let running = rw c.self.invariant.linked.product_count at c.execute.ensures.running in
    record {
      summed =
          subst (λ (m : ℕ). IsSummedBook m c.self.inside.products c.self.inside.submitted c.execute.new.sums c.execute.new.rows.items) (sym c.execute.ensures.members)
          (record { book = rw c.execute.ensures.items after; kept = running.kept });
      linked = rw c.execute.ensures.members running.linked;
      room = omega (arith, c.execute.ensures.spare, c.self.invariant.room, c.execute.ensures.len, c.execute.ensures.capacity);
    }
