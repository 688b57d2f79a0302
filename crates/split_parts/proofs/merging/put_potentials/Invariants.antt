use Rattle.std.proofs.Common.{◌≡◌, ◌≢◌, ℕ, ◌<◌, get_or}
use Rattle.std.specs.Prelude.{All}
use Rattle.network_laws.specs.Limits.{potential}
use Rattle.network_laws.specs.Solutions.{IsPotential}
use Rattle.split_parts.proofs.merging.put_potentials.Given as goal

abbrev pub invariant-loop-place : goal.invariant-loop-place
invariant-loop-place l = record {
  here : (q : ℕ) → q < l.place → potential l.potentials (get_or l.part q 0) ≡ potential l.own q;
  rest : (m : ℕ) → ((q : ℕ) → q < l.place → get_or l.part q 0 ≢ m) → potential l.potentials m ≡ potential l.initial.potentials m;
  in_range : All IsPotential l.potentials;
}
