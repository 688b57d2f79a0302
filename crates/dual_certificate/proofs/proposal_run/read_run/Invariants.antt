use Rattle.std.proofs.Common.{◌≡◌}
use Rattle.dual_certificate.specs.Runs.{ReadsParts, rest_behind}
use Rattle.dual_certificate.proofs.proposal_run.read_run.Given as goal

abbrev pub invariant-loop : goal.invariant-loop
invariant-loop l = record {
  reads : ReadsParts l.roster l.text l.parts.items;
  rest : rest_behind l.text l.parts.items ≡ l.rest;
}
