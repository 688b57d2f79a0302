use Rattle.std.proofs.Common.{◌≡◌, ◌+◌, ◌<◌, ◌≤◌, ℕ, length, slice_index}
use Rattle.units_core.specs.declared.limits.TheConstants.{MOST_GROSS}
use Rattle.trade_file.proofs.trade_draft.added.Given as goal

abbrev pub invariant-loop-product : goal.invariant-loop-product
invariant-loop-product l = record {
  size : length l.all ≡ 64;
  sums : (k : ℕ) → k < l.product → slice_index l.all k ≤ MOST_GROSS;
  added : (k : ℕ) → k < l.product → slice_index l.all k ≡ slice_index l.front k + slice_index l.back k;
}
