use Rattle.std.proofs.Common.{◌+◌, ◌≤◌, ℕ, List, length}
use Rattle.units_core.specs.declared.limits.TheConstants.{MOST_FILE}
use Rattle.dual_certificate.specs.Runs.{ReadsParts, IsJoined}
use Rattle.dual_certificate.proofs.run_joiner.take_run.Given as goal

abbrev pub invariant-loop-read : goal.invariant-loop-read
invariant-loop-read l = record {
  reads : ReadsParts l.roster l.joined.rest.now l.read-iterator.rest.items;
  short : l.joined.row + length l.joined.rest.now ≤ MOST_FILE + 1;
  joined : (bytes : List ℕ) → IsJoined l.roster bytes l.initial.joined → IsJoined l.roster bytes l.joined;
}
