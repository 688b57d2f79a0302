use Rattle.std.proofs.Common.{◌≡◌, ◌<◌, ◌≤◌, ℕ, List, length, get_or}
use Rattle.split_parts.specs.Labels.{LeadTo}
use Rattle.split_parts.proofs.labels.label_of.Given as goal

abbrev pub invariant-loop-label : goal.invariant-loop-label
invariant-loop-label l = record {
  here : l.label < length l.parents;
  below : l.label ≤ l.member;
  same : (labels : List ℕ) → LeadTo l.parents labels → get_or labels l.label 0 ≡ get_or labels l.member 0;
}

abbrev pub decreases-loop-label : goal.decreases-loop-label
decreases-loop-label l = l.label
