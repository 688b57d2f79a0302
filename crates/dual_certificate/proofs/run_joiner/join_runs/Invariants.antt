use Rattle.std.specs.Prelude.{All}
use Rattle.dual_certificate.specs.Runs.{IsRun, IsJoined}
use Rattle.dual_certificate.proofs.run_joiner.join_runs.Given as goal

abbrev pub invariant-loop-run : goal.invariant-loop-run
invariant-loop-run l = record {
  runs : All (IsRun l.roster) l.run-iterator.rest.items;
  joined : IsJoined l.roster l.bytes l.joined;
}
