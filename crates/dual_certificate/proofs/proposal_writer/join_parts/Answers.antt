use Rattle.std.proofs.Common.{length}
use Rattle.dual_certificate.proofs.TextFacts.{all_joined}
use Rattle.dual_certificate.proofs.proposal_writer.join_parts.Goals as goal

pub returns : goal.returns
returns c = λ roster olds news are.
    all_joined roster olds news (length c.args.parts.now) c.in_ok-out.out.items c.put_number.new.out.items c.extend_from_slice.new.self.items
    (c.in_ok-out.ensures roster olds news are) are.count c.in_ok-put_number.ensures c.in_ok-extend_from_slice.ensures.items
