use Rattle.std.proofs.Common.{◌≡◌, ◌+◌, ◌++◌, take, drop}
use Rattle.std.specs.List.{concat}
use Rattle.record_pool.proofs.pages.copy_all.Given as goal

abbrev pub invariant-loop-left : goal.invariant-loop-left
invariant-loop-left l = record {
  sum : l.at + l.left ≡ l.from + l.count;
  told : l.into.items ++ take l.left (drop l.at (concat l.pages)) ≡ l.fn.into.items ++ take l.count (drop l.from (concat l.pages));
}

abbrev pub decreases-loop-left : goal.decreases-loop-left
decreases-loop-left l = l.left
