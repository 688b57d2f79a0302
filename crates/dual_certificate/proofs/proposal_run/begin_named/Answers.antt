use Rattle.dual_certificate.proofs.proposal_run.begin_named.Goals as goal

pub returns-clause-draft : goal.returns-clause-draft
returns-clause-draft c = c.begun.ensures.draft c.args.roster.now
