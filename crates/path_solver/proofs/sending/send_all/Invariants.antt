use Rattle.std.proofs.Common.{◌+◌, ◌≤◌, sum}
use Rattle.path_solver.specs.Labels.{IsBegunFrom, IsSentOver, still_to_do, top_of}
use Rattle.path_solver.proofs.sending.send_all.Given as goal

abbrev pub invariant-paths : goal.invariant-paths
invariant-paths g l = record {
  over : IsSentOver l.trip.labels.now (top_of l.trip) l.initial.work l.work l.initial.layers l.layers;
  few : l.steps + still_to_do l.trip.labels.now l.work ≤ l.initial.steps + still_to_do l.trip.labels.now l.initial.work;
  begun : IsBegunFrom l.work l.trip l.layers l.path l.stand;
}

abbrev pub decreases-paths : goal.decreases-paths
decreases-paths g l = sum l.work.balance.surplus.items
