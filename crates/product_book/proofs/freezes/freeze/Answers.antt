use Rattle.std.proofs.Common.{arith}
use Rattle.product_book.proofs.FreezeFacts.{freeze_step, count_step, count_small}
use Rattle.product_book.proofs.freezes.freeze.Goals as goal
use Rattle.product_book.proofs.freezes.freeze.Goals.{then-row, else-row}

pub overflow_add-count : goal.overflow_add-count
overflow_add-count c = let small = count_small c.args.products.now c.args.rows.now c.loop-row.row-index in omega arith

pub loop-row-preserved : goal.loop-row-preserved
loop-row-preserved c =
    let counted = count_step c.args.products.now c.args.rows.now c.loop-row.rows c.loop-row.row-index c.row-item.result c.is_taken-row.result c.loop-row-test.true c.loop-row.invariant.rows c.row-item.is c.is_taken-row.ensures in
    record {
      rows = freeze_step c.args.products.now c.args.rows.now c.loop-row.rows c.loop-row.row-index c.row-item.result c.is_taken-row.result c.loop-row-test.true c.loop-row.invariant.rows c.row-item.is c.is_taken-row.ensures;
      count =
          elim c.if-row.branch [
            | then-row w ↦ (let one = rw w.if-row.true at counted in omega arith)
            | else-row w ↦ (let one = rw w.if-row.false at counted in omega arith)
          ];
    }
