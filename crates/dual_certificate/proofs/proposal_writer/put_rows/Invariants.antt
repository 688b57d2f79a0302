use Rattle.std.proofs.Common.{◌≡◌, ◌++◌, take}
use Rattle.dual_certificate.specs.ProposalText.{rows_text}
use Rattle.dual_certificate.proofs.proposal_writer.put_rows.Given as goal

abbrev pub invariant-loop-row : goal.invariant-loop-row
invariant-loop-row l = l.out.items ≡ l.fn.out.items ++ rows_text l.fn.roster (take l.row-index l.rows)
