use Rattle.std.proofs.Common.{◌≡◌, replicate}
use Rattle.cycle_cancel.specs.Rounds.{first_step}
use Rattle.cycle_cancel.proofs.round.zeros.Given as goal

abbrev pub invariant-loop-member : goal.invariant-loop-member
invariant-loop-member l = l.steps.items ≡ replicate l._member first_step
