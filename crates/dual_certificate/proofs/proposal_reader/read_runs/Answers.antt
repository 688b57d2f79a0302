use Rattle.std.proofs.Common.{List, Result, Ok, ◌≡◌, sym, subst}
use Rattle.std.specs.Result.{IfOk}
use Rattle.command_types.specs.declared.file_fault.FileFault.{FileFault}
use Rattle.dual_certificate.specs.declared.proposal_part.ProposalPart.{ProposalPart}
use Rattle.dual_certificate.specs.ProposalLine.{pieces}
use Rattle.dual_certificate.proofs.PartFacts.{parts_within}
use Rattle.dual_certificate.proofs.proposal_reader.read_runs.Goals as goal

pub returns-in-Ok-clause-within : goal.returns-in-Ok-clause-within
returns-in-Ok-clause-within c =
    let said = subst (λ (x : Result (List ProposalPart) FileFault). IfOk c.read_lines.result (λ v. x ≡ Ok v.items)) (sym c.in-Ok.ensures.says) c.read_lines.ensures.parts in
    parts_within c.args.roster.now (pieces 10 c.args.bytes.now) (λ v. v.items) c.read_lines.result c.read_lines.ensures.solutions said
