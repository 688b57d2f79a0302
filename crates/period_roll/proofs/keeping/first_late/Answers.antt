use Rattle.std.proofs.Common.{◌≡◌, ◌∙◌, rules, sym, false, true}
use Rattle.std.specs.Prelude.{slice_get}
use Rattle.std.proofs.lemmas.List.{at_drop_all}
use Rattle.command_types.specs.Cycles.{product_matures_after}
use Rattle.period_roll.specs.Trades.{first_late}
use Rattle.period_roll.proofs.Loops.{late_here, late_past}
use Rattle.period_roll.proofs.keeping.first_late.Goals as goal

pub returns-then-not-matures_after : goal.returns-then-not-matures_after
returns-then-not-matures_after c =
    let late : product_matures_after (slice_get c.args.products.now c.row-item.result.product) c.row-item.result.day ≡ false = search rules in
    sym (late_here c.args.products.now c.args.rows.now c.loop-row.row-index c.row-item.result c.loop-row-test.true c.row-item.is late) ∙ c.loop-row.invariant

pub loop-row-preserved : goal.loop-row-preserved
loop-row-preserved c =
    let early : product_matures_after (slice_get c.args.products.now c.row-item.result.product) c.row-item.result.day ≡ true = search rules in
    sym (late_past c.args.products.now c.args.rows.now c.loop-row.row-index c.row-item.result c.loop-row-test.true c.row-item.is early) ∙ c.loop-row.invariant

pub returns : goal.returns
returns c = sym (at_drop_all (first_late c.args.products.now) c.args.rows.now c.loop-row.row-index c.loop-row-test.false) ∙ c.loop-row.invariant
