use Rattle.std.proofs.Common.{◌≡◌, ◌≤◌, ◌<◌, ℕ, drop, length}
use Rattle.std.specs.Prelude.{All}
use Rattle.network_laws.specs.Limits.{potential}
use Rattle.network_laws.specs.Solutions.{IsPotential}
use Rattle.split_parts.specs.Merged.{potential_in}
use Rattle.split_parts.proofs.merging.merged_potentials.Given as goal

abbrev pub invariant-loop-at : goal.invariant-loop-at
invariant-loop-at l = record {
  end : l.at ≤ length l.parts;
  size : length l.potentials.items ≡ l.members;
  value : (m : ℕ) → m < l.members → potential l.potentials.items m ≡ potential_in (drop l.at l.parts) (drop l.at l.solutions) m;
  in_range : All IsPotential l.potentials.items;
}

abbrev pub decreases-loop-at : goal.decreases-loop-at
decreases-loop-at l = l.at
