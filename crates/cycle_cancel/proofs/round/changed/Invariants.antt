use Rattle.std.proofs.Common.{◌≡◌, ℕ, ◌<◌, None}
use Rattle.cycle_cancel.specs.Traces.{arc_at}
use Rattle.cycle_cancel.proofs.round.changed.Given as goal

abbrev pub invariant-loop-at : goal.invariant-loop-at
invariant-loop-at l = (v : ℕ) → v < l.at → arc_at l.level v ≡ None
