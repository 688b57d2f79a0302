use Rattle.std.proofs.Common.{◌<◌, length, take, arith}
use Rattle.product_book.proofs.BookFacts.{submitted_le}
use Rattle.product_book.proofs.LoadingFacts.{length_take}
use Rattle.product_book.proofs.loading.submitted_among.Goals as goal

pub overflow_add-count : goal.overflow_add-count
overflow_add-count c =
    let i = c.loop-row.row-index in
    let rows = c.args.rows.now in
    let lt : i < length rows = c.loop-row-test.true in
    omega (arith, c.loop-row.invariant, submitted_le (take i rows), length_take i rows (omega (arith, lt)), lt, c.well_formed)
