use Rattle.std.proofs.Common.{◌≡◌, ◌≤◌, ◌-◌, drop, length}
use Rattle.standby_wire.specs.Words.{digits}
use Rattle.standby_wire.proofs.words.digits.Given as goal

abbrev pub invariant-loop-end : goal.invariant-loop-end
invariant-loop-end l = (digits l.most l.value (drop l.end l.input) ≡ digits l.most l.fn.first (drop l.fn.at l.input)) × (l.value ≤ l.most)

abbrev pub decreases-loop-end : goal.decreases-loop-end
decreases-loop-end l = length l.input - l.end
