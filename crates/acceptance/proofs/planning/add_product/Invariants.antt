use Rattle.std.proofs.Common.{◌≡◌, ℕ, ◌*◌, ◌≤◌, ◌++◌}
use Rattle.std.specs.List.Sorted.{IsNonDecreasingBy}
use Rattle.command_types.specs.Books.{listed_below}
use Rattle.command_types.specs.Plans.{free_rows, pair_plan}
use Rattle.acceptance.specs.Planning.{trade_place, AreBefore}
use Rattle.acceptance.proofs.planning.add_product.Given as goal

abbrev pub invariant-loop-seller : goal.invariant-loop-seller
invariant-loop-seller l = record {
  steps : l.plan.items ≡ l.initial.plan.items ++ listed_below l.seller (λ i. listed_below l.change.old.now.members (pair_plan l.free l.change.day l.change.product l.change.old.now l.change.new.now i));
  sorted : IsNonDecreasingBy trade_place l.left;
  old : AreBefore l.change.old.now.rows l.passed.old (l.seller * 65536);
  new : AreBefore l.change.new.now.rows l.passed.new (l.seller * 65536);
  left : (seller buyer : ℕ) → l.seller ≤ seller → free_rows l.left l.change.product seller buyer ≡ free_rows l.free l.change.product seller buyer;
}
