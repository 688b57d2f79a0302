use Rattle.std.proofs.Common.{◌≢◌, ℕ, ◌<◌}
use Rattle.std.specs.Prelude.{slice_index_or}
use Rattle.doors.specs.declared.planned_door.PlannedDoor.{PlannedDoor}
use Rattle.doors.proofs.memory_listener.place_of.Given as goal

abbrev pub invariant-loop-k : goal.invariant-loop-k
invariant-loop-k l = (j : ℕ) (d : PlannedDoor) → j < l.k → (slice_index_or l.planned j d).number ≢ l.number
