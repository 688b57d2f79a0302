use Rattle.std.proofs.Common.{◌≡◌, ◌+◌, ◌≤◌, length}
use Rattle.path_solver.proofs.TakenBack.{IsTakenBack}
use Rattle.path_solver.proofs.lowest.take_back.Given as goal

abbrev pub invariant-loop-pair : goal.invariant-loop-pair
invariant-loop-pair g l = record {
  members : l.residual.members ≡ l.initial.residual.members;
  surplus : l.initial.residual.members ≡ length l.balance.surplus.items;
  lack : l.initial.residual.members ≡ length l.balance.lack.items;
  taken : IsTakenBack l.initial.residual.flows l.residual.flows l.balance.surplus.items l.balance.lack.items l.pair;
  few : l.steps ≤ l.initial.steps + l.pair;
}
