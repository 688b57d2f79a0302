use Rattle.std.proofs.Common.{◌≡◌}
use Rattle.network_laws.specs.Networks.{sum_below}
use Rattle.net_positions.specs.Tables.{positive_at}
use Rattle.net_positions.proofs.positions.positive_sum.Given as goal

abbrev pub invariant-loop-member : goal.invariant-loop-member
invariant-loop-member l = l.sum ≡ sum_below l.member (positive_at l.sold l.bought)
