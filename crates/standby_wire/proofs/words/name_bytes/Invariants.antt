use Rattle.std.proofs.Common.{◌≡◌, ◌-◌, drop, length}
use Rattle.standby_wire.specs.Words.{name_bytes}
use Rattle.standby_wire.proofs.words.name_bytes.Given as goal

abbrev pub invariant-loop-end : goal.invariant-loop-end
invariant-loop-end l = name_bytes l.room (drop l.end l.input) ≡ name_bytes 15 (drop l.fn.at l.input)

abbrev pub decreases-loop-end : goal.decreases-loop-end
decreases-loop-end l = length l.input - l.end
