use Rattle.std.proofs.Common.{◌≡◌, ◌≤◌, ◌<◌, ◌-◌, length, get_or}
use Rattle.split_parts.specs.Labels.{IsClassTo}
use Rattle.split_parts.proofs.members.members_with.Given as goal

abbrev pub invariant-loop-member : goal.invariant-loop-member
invariant-loop-member l = record {
  within : l.member ≤ length l.labels;
  here : l.member < length l.labels → get_or l.labels l.member 0 ≡ l.label;
  class : IsClassTo l.labels l.label l.member l.members.items;
}

abbrev pub decreases-loop-member : goal.decreases-loop-member
decreases-loop-member l = length l.labels - l.member
