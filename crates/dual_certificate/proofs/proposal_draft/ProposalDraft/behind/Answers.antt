use Rattle.dual_certificate.proofs.proposal_draft.ProposalDraft.behind.Goals as goal

pub returns-clause-draft : goal.returns-clause-draft
returns-clause-draft c = λ roster.
    let d = c.new-draft.ensures.draft roster in
    record { rows = d.rows; all = d.all; in_range = d.in_range; good = c.requires }
