use Rattle.std.proofs.Common.{◌≤◌, ◌<◌, ◌-◌, length}
use Rattle.std.specs.List.{AllWithin}
use Rattle.acceptance.specs.Planning.{trade_place}
use Rattle.acceptance.proofs.free_trades.passed.Given as goal

abbrev pub invariant-loop-count : goal.invariant-loop-count
invariant-loop-count l = record {
  end : l.count ≤ length l.rows;
  before : AllWithin (λ row. trade_place row < l.place) l.rows 0 l.count;
}

abbrev pub decreases-loop-count : goal.decreases-loop-count
decreases-loop-count l = length l.rows - l.count
