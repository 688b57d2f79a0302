use Rattle.dual_certificate.proofs.RunFacts.{begins_named}
use Rattle.dual_certificate.proofs.proposal_run.begin_part.Goals as goal

pub returns-in-Product : goal.returns-in-Product
returns-in-Product c =
    begins_named c.args.roster.now c.in-Product.name c.in-Product.figures c.args.line (λ begun. begun.0) (λ begun. begun.1) c.begin_named.result c.in-Product.is c.begin_named.ensures.place c.begin_named.ensures.reading c.begin_named.ensures.draft
