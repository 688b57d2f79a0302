use Rattle.std.proofs.Common.{◌≡◌, replicate, None}
use Rattle.cycle_cancel.proofs.trace.unmarked.Given as goal

abbrev pub invariant-loop-member : goal.invariant-loop-member
invariant-loop-member l = l.marks.items ≡ replicate l._member None
