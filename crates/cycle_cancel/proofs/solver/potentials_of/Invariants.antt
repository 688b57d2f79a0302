use Rattle.std.proofs.Common.{◌≡◌, take, map}
use Rattle.std.specs.Prelude.{neg_ℤ}
use Rattle.cycle_cancel.proofs.solver.potentials_of.Given as goal

abbrev pub invariant-loop-label : goal.invariant-loop-label
invariant-loop-label l = l.potentials.items ≡ map neg_ℤ (take l.label-index l.labels)
