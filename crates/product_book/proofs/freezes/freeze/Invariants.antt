use Rattle.std.proofs.Common.{◌≡◌, ◌++◌, length, take, drop}
use Rattle.product_book.specs.Freezes.{rows_by_choice, frozen_among}
use Rattle.product_book.proofs.freezes.freeze.Given as goal

abbrev pub invariant-loop-row : goal.invariant-loop-row
invariant-loop-row l = record {
  rows : l.rows ≡ rows_by_choice l.products (take l.row-index l.initial.rows) ++ drop l.row-index l.initial.rows;
  count : l.count ≡ length (frozen_among (rows_by_choice l.products (take l.row-index l.initial.rows)));
}
