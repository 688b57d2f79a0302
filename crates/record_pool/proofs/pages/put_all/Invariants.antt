use Rattle.std.proofs.Common.{◌≡◌, ◌+◌, ◌++◌, length, take}
use Rattle.std.specs.List.{concat}
use Rattle.record_pool.specs.Pages.{AreFull}
use Rattle.record_pool.proofs.pages.put_all.Given as goal

abbrev pub invariant-loop-rest : goal.invariant-loop-rest
invariant-loop-rest l = record {
  full : AreFull l.pages.items;
  same : length l.pages.items ≡ length l.fn.pages.items;
  sum : l.at + length l.rest ≡ l.from + length l.bytes;
  told : take l.at (concat l.pages.items) ++ l.rest ≡ take l.from (concat l.fn.pages.items) ++ l.bytes;
}

abbrev pub decreases-loop-rest : goal.decreases-loop-rest
decreases-loop-rest l = length l.rest
