use Rattle.std.proofs.Common.{◌≡◌, ◌<◌, ◌≤◌, ℕ, List, length, get_or}
use Rattle.split_parts.specs.Labels.{LeadTo}
use Rattle.split_parts.proofs.labels.flatten.Given as goal

abbrev pub invariant-loop-member : goal.invariant-loop-member
invariant-loop-member l = record {
  low : (m : ℕ) → m < length l.parents → get_or l.parents m 0 ≤ m;
  leads : (labels : List ℕ) → LeadTo l.initial.parents labels → LeadTo l.parents labels × ((k : ℕ) → k < l.member → get_or l.parents k 0 ≡ get_or labels k 0);
}
