use Rattle.std.proofs.Common.{◌≡◌, take, map}
use Rattle.cycle_cancel.specs.Rounds.{fresh}
use Rattle.cycle_cancel.proofs.round.unchanged.Given as goal

abbrev pub invariant-loop-step : goal.invariant-loop-step
invariant-loop-step l = l.next.items ≡ map fresh (take l.step-index l.before)
