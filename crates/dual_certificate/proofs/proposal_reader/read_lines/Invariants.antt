use Rattle.std.proofs.Common.{◌≡◌, ◌+◌, ◌≤◌, length}
use Rattle.units_core.specs.declared.limits.TheConstants.{MOST_FILE}
use Rattle.dual_certificate.specs.ProposalLine.{pieces}
use Rattle.dual_certificate.specs.Proposal.{after_parts, with_pieces}
use Rattle.dual_certificate.specs.ProposalDraft.{IsDraft, reading_of}
use Rattle.dual_certificate.proofs.proposal_reader.read_lines.Given as goal

abbrev pub invariant-loop-line : goal.invariant-loop-line
invariant-loop-line l = (with_pieces l.fn.roster l.fn.joined.row (after_parts l.fn.joined.parts.items) (pieces 10 l.fn.joined.rest.now) ≡ with_pieces l.fn.roster l.row (reading_of l.draft) (pieces 10 l.rest))
    × IsDraft l.fn.roster l.draft × (l.row + length l.rest ≤ MOST_FILE + 1)

abbrev pub decreases-loop-line : goal.decreases-loop-line
decreases-loop-line l = length l.rest
