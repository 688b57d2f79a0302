use Rattle.std.proofs.Common.{◌≡◌, replicate}
use Rattle.path_solver.proofs.room.all_of.Given as goal

abbrev pub invariant-loop-member : goal.invariant-loop-member
invariant-loop-member g l = l.values.items ≡ replicate l._member l.value
