use Rattle.std.proofs.Common.{◌≡◌, ℕ, ◌+◌, ◌<◌, ◌≤◌, true, false, length, get_or, sum}
use Rattle.member_set.specs.Members.{has, size}
use Rattle.path_solver.specs.Levels.{layer_at}
use Rattle.path_solver.specs.Labels.{IsSentOver, still_to_do, surplus_in, top_of}
use Rattle.path_solver.proofs.sending.send_phase.Given as goal

abbrev pub invariant-senders : goal.invariant-senders
invariant-senders g l = record {
  over : IsSentOver l.trip.labels.now (top_of l.trip) l.fn.work l.work l.fn.layers l.layers;
  left : (v : ℕ) → has l.left v ≡ true → (v < length l.trip.labels.now.levels.now) × (get_or l.trip.labels.now.levels.now v 0 ≡ top_of l.trip);
  spent : (v : ℕ) → has l.left v ≡ false → has (layer_at l.layers (top_of l.trip)) v ≡ true → surplus_in l.work v ≡ 0;
  few : l.steps + still_to_do l.trip.labels.now l.work ≤ l.fn.steps + still_to_do l.trip.labels.now l.fn.work;
  sent : sum l.work.balance.surplus.items < sum l.fn.work.balance.surplus.items;
}

abbrev pub decreases-senders : goal.decreases-senders
decreases-senders g l = size l.left
