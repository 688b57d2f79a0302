use Rattle.std.proofs.Common.{◌<◌, ◌≤◌, ℕ}
use Rattle.std.specs.Prelude.{slice_index_or}
use Rattle.residual_graph.specs.Arcs.{room}
use Rattle.cycle_cancel.proofs.cancel.least_room.Given as goal

abbrev pub invariant-loop-arc : goal.invariant-loop-arc
invariant-loop-arc l =
    (0 < l.least) × ((k : ℕ) (d : ℕ) → k < l.arc-index → l.least ≤ room l.residual.flows (slice_index_or l.arcs k d))
