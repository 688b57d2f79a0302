use Rattle.std.proofs.Common.{◌+◌, ◌-◌, ◌≤◌, length}
use Rattle.path_solver.specs.Rests.{IsSentAlong}
use Rattle.path_solver.proofs.direct.send_direct.Given as goal

abbrev pub invariant-loop-pair : goal.invariant-loop-pair
invariant-loop-pair g l = record {
  along : IsSentAlong l.prices l.initial.residual l.residual l.initial.balance.surplus.items l.initial.balance.lack.items l.balance.surplus.items l.balance.lack.items;
  few : l.steps + (length l.residual.flows - l.pair) ≤ l.initial.steps + length l.initial.residual.flows;
}

abbrev pub decreases-loop-pair : goal.decreases-loop-pair
decreases-loop-pair g l = length l.residual.flows - l.pair
