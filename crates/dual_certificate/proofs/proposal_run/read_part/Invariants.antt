use Rattle.std.proofs.Common.{◌≡◌, ◌+◌, ◌≤◌, ℕ, List, length}
use Rattle.dual_certificate.specs.declared.proposal_part.ProposalPart.{ProposalPart}
use Rattle.dual_certificate.specs.ProposalLine.{pieces}
use Rattle.dual_certificate.specs.Proposal.{after_parts, with_pieces}
use Rattle.dual_certificate.specs.ProposalDraft.{IsDraft}
use Rattle.dual_certificate.specs.Runs.{inside}
use Rattle.dual_certificate.proofs.proposal_run.read_part.Given as goal

abbrev pub invariant-loop-line : goal.invariant-loop-line
invariant-loop-line l = record {
  draft : IsDraft l.roster l.draft;
  shorter : l.lines + length l.rest ≤ length l.text;
  says : (n : ℕ) (before : List ProposalPart) → length before ≡ l.product → with_pieces l.roster n (after_parts before) (pieces 10 l.text) ≡ with_pieces l.roster (n + l.lines) (inside before l.draft) (pieces 10 l.rest);
}

abbrev pub decreases-loop-line : goal.decreases-loop-line
decreases-loop-line l = length l.rest
