use Rattle.std.proofs.Common.{◌≡◌, ◌++◌, take}
use Rattle.dual_certificate.specs.ProposalText.{pots_text}
use Rattle.dual_certificate.proofs.proposal_writer.put_pots.Given as goal

abbrev pub invariant-loop-member : goal.invariant-loop-member
invariant-loop-member l = l.out.items ≡ l.fn.out.items ++ pots_text l.fn.roster 0 (take l.member l.values)
