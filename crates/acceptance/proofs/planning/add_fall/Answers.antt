use Rattle.std.proofs.Common.{◌≡◌, ◌+◌, ◌++◌, drop, true, false, sym, ap, ◌∙◌}
use Rattle.std.specs.Prelude.{filter}
use Rattle.command_types.specs.Plans.{falling}
use Rattle.acceptance.specs.Planning.{is_free_between}
use Rattle.acceptance.proofs.PlanFacts.{fall_more, fall_same}
use Rattle.acceptance.proofs.planning.add_fall.Goals as goal
use Rattle.acceptance.proofs.planning.add_fall.Goals.{then-is_free_between+in_ok-fall, else-is_free_between}

pub loop-row-preserved : goal.loop-row-preserved
loop-row-preserved c =
    let trades = c.args.trades.now in
    let i = c.loop-row.row-index in
    let row = c.row-item.result in
    let P = is_free_between c.args.pair.now.product c.args.pair.now.seller c.args.pair.now.buyer in
    let start = c.args.plan.now.items ++ falling c.args.fall (filter P trades) in
    let before = c.loop-row.plan.items in
    elim c.if-is_free_between.branch [
      | then-is_free_between+in_ok-fall w ↦
          let passes : P row ≡ true = sym c.is_free_between.ensures ∙ w.if-is_free_between.true in
          fall_more P i trades row c.loop-row-test.true c.row-item.is c.loop-row.fall c.if-is_free_between.fall start before c.if-is_free_between.plan.items passes c.loop-row.invariant
          (ap (λ p. p.items) w.plan-is ∙ w.in_ok-fall.ensures.steps) (w.fall-is ∙ w.in_ok-fall.ensures.left)
      | else-is_free_between w ↦
          let fails : P row ≡ false = sym c.is_free_between.ensures ∙ w.if-is_free_between.false in
          fall_same P i trades row c.loop-row-test.true c.row-item.is c.loop-row.fall start before fails c.loop-row.invariant
          ∙ ap (λ p. p.items ++ falling c.loop-row.fall (filter P (drop (i + 1) trades))) (sym w.plan-is)
          ∙ ap (λ n. c.if-is_free_between.plan.items ++ falling n (filter P (drop (i + 1) trades))) (sym w.fall-is)
    ]
