use Rattle.std.proofs.Common.{◌≡◌, take, map}
use Rattle.cycle_cancel.specs.Rounds.{label_of}
use Rattle.cycle_cancel.proofs.search.labels_of.Given as goal

abbrev pub invariant-loop-step : goal.invariant-loop-step
invariant-loop-step l = l.labels.items ≡ map label_of (take l.step-index l.steps)
