use Rattle.std.proofs.Common.{ℕ, ◌+◌, ◌∙◌, length, ap, sym, subst, arith}
use Rattle.command_types.specs.Plans.{after_step}
use Rattle.product_book.specs.Execution.{IsRunning}
use Rattle.product_book.proofs.ExecutionFacts.{added_le, added_more, executed_more, runs_at}
use Rattle.product_book.proofs.execution.execute.Goals as goal

pub run-requires-clause-room : goal.run-requires-clause-room
run-requires-clause-room c =
    omega (arith, added_le c.args.plan.now c.loop-step.step-index c.step-item.result c.loop-step-test.true c.step-item.is)

pub run-requires-clause-step : goal.run-requires-clause-step
run-requires-clause-step c =
    rw c.loop-step.invariant.items (runs_at c.args.rows.now.items c.args.plan.now c.loop-step.step-index c.step-item.result c.loop-step-test.true c.step-item.is c.requires.steps)

pub run-requires-clause-spare : goal.run-requires-clause-spare
run-requires-clause-spare c =
    omega (arith, c.loop-step.invariant.spare, c.requires.spare, added_le c.args.plan.now c.loop-step.step-index c.step-item.result c.loop-step-test.true c.step-item.is)

pub run-requires-clause-passing : goal.run-requires-clause-passing
run-requires-clause-passing c =
    rw (c.loop-step.invariant.items, executed_more c.args.rows.now.items c.args.plan.now c.loop-step.step-index c.step-item.result c.loop-step-test.true c.step-item.is)
    (c.requires.passing (c.loop-step.step-index + 1))

pub run-requires-clause-running : goal.run-requires-clause-running
run-requires-clause-running c =
    subst (λ (m : ℕ). IsRunning m (length c.loop-step.links.by_product.lists) c.loop-step.sums c.loop-step.links.by_product c.loop-step.links.by_pair c.loop-step.links.spare c.loop-step.rows.items) (sym c.loop-step.invariant.members)
    (rw c.loop-step.invariant.running.linked.product_count c.loop-step.invariant.running)

pub loop-step-preserved : goal.loop-step-preserved
loop-step-preserved c =
    let more = added_more c.args.plan.now c.loop-step.step-index c.step-item.result c.loop-step-test.true c.step-item.is in
    let fits = added_le c.args.plan.now c.loop-step.step-index c.step-item.result c.loop-step-test.true c.step-item.is in
    record {
      items =
          c.run.ensures.items ∙ ap (λ rows. after_step rows c.step-item.result) c.loop-step.invariant.items
          ∙ executed_more c.args.rows.now.items c.args.plan.now c.loop-step.step-index c.step-item.result c.loop-step-test.true c.step-item.is;
      len = omega (arith, c.run.ensures.len, c.loop-step.invariant.len, more);
      capacity = c.run.ensures.capacity ∙ c.loop-step.invariant.capacity;
      members = c.run.ensures.members ∙ c.loop-step.invariant.members;
      spare = omega (arith, c.run.ensures.spare, c.loop-step.invariant.spare, more, fits, c.requires.spare);
      running =
          subst (λ (m : ℕ). IsRunning m (length c.args.links.now.by_product.lists) c.run.new.sums c.run.new.links.by_product c.run.new.links.by_pair c.run.new.links.spare c.run.new.rows.items) c.loop-step.invariant.members
          (rw c.loop-step.invariant.running.linked.product_count at c.run.ensures.running);
    }
