use Rattle.split_parts.specs.Labels.{AreClassesTo}
use Rattle.split_parts.proofs.members.parts_with.Given as goal

abbrev pub invariant-loop-member : goal.invariant-loop-member
invariant-loop-member l = AreClassesTo l.labels l.member l.parts.items
