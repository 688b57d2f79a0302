use Rattle.std.proofs.Common.{◌≡◌, ◌+◌, length, take}
use Rattle.product_book.specs.Execution.{IsRunning}
use Rattle.product_book.proofs.loading.load.Given as goal

abbrev pub invariant-loop-row : goal.invariant-loop-row
invariant-loop-row l = record {
  members : l.sums.members ≡ l.initial.sums.members;
  spare : l.links.spare + l.row-index ≡ l.initial.links.spare;
  running : IsRunning l.initial.sums.members (length l.initial.links.by_product.lists) l.sums l.links.by_product l.links.by_pair l.links.spare (take l.row-index l.rows);
}
