use Rattle.std.proofs.Common.{◌≤◌}
use Rattle.split_parts.proofs.Trees.{AreJoinedTo}
use Rattle.split_parts.proofs.labels.join_rows.Given as goal

abbrev pub invariant-loop-at : goal.invariant-loop-at
invariant-loop-at l = record {
  joined : AreJoinedTo l.limits l.at l.parents;
  links : l.links ≤ l.at;
}
