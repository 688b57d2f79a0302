use Rattle.std.proofs.Common.{ap, sym, set, ◌∙◌}
use Rattle.std.proofs.lemmas.List.Edits.{map_over_more}
use Rattle.command_types.specs.Plans.{thawed_row}
use Rattle.product_book.proofs.freezes.thaw.Goals as goal

pub loop-row-preserved : goal.loop-row-preserved
loop-row-preserved c =
    ap (λ r. set c.loop-row.rows c.loop-row.row-index (thawed_row r)) (sym c.row-item.is)
    ∙ map_over_more thawed_row c.args.rows.now c.loop-row.rows c.loop-row.row-index c.row-item.result c.loop-row-test.true c.loop-row.invariant c.row-item.is
