use Rattle.std.specs.Prelude.{All}
use Rattle.network_laws.specs.Solutions.{IsPotential}
use Rattle.split_parts.proofs.Settled.{AreCleared}
use Rattle.split_parts.proofs.settling.clear_others.Given as goal

abbrev pub invariant-loop-member : goal.invariant-loop-member
invariant-loop-member l = record {
  cleared : AreCleared l.part l.passed l.member l.initial.potentials l.potentials;
  in_range : All IsPotential l.potentials;
}
