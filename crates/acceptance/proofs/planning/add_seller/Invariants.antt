use Rattle.std.proofs.Common.{◌≡◌, ℕ, ◌+◌, ◌*◌, ◌≤◌, ◌-◌, ◌++◌, length}
use Rattle.std.specs.List.Sorted.{IsNonDecreasingBy}
use Rattle.network_laws.specs.Networks.{IsCursor}
use Rattle.command_types.specs.Books.{listed_below}
use Rattle.command_types.specs.Plans.{free_rows, pair_plan}
use Rattle.acceptance.specs.Planning.{trade_place}
use Rattle.acceptance.proofs.planning.add_seller.Given as goal

abbrev pub invariant-loop-from : goal.invariant-loop-from
invariant-loop-from l = record {
  steps : l.plan.items ≡ l.initial.plan.items ++ listed_below l.from (pair_plan l.free l.change.day l.change.product l.change.old.now l.change.new.now l.seller);
  sorted : IsNonDecreasingBy trade_place l.left;
  left : (buyer : ℕ) → l.from ≤ buyer → free_rows l.left l.change.product l.seller buyer ≡ free_rows l.free l.change.product l.seller buyer;
  within : l.from ≤ l.members;
  old_end : l.at.old ≤ length l.change.old.now.rows;
  old : IsCursor l.change.old.now.rows l.at.old (l.seller * 65536 + l.from);
  new_end : l.at.new ≤ length l.change.new.now.rows;
  new : IsCursor l.change.new.now.rows l.at.new (l.seller * 65536 + l.from);
}

abbrev pub decreases-loop-from : goal.decreases-loop-from
decreases-loop-from l = l.members - l.from
