use Rattle.std.proofs.Common.{◌≡◌, take, vec_len}
use Rattle.std.specs.Prelude.{map}
use Rattle.split_parts.specs.Own.{own_problem}
use Rattle.split_parts.proofs.parts.split.Given as goal

abbrev pub invariant-loop-at : goal.invariant-loop-at
invariant-loop-at l = record {
  size : vec_len l.problems ≡ l.at;
  problems : l.problems.items ≡ map (own_problem l.limits l.network) (take l.at l.partition-inside.parts.items);
}
