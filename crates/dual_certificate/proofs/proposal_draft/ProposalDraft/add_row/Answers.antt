use Rattle.std.proofs.Common.{◌≡◌, ◌∙◌, ◌+◌, ◌++◌, [], ◌∷◌, length, true, is_some, refl, sym, rules}
use Rattle.std.specs.Result.{is_ok}
use Rattle.network_laws.specs.declared.rows.Row.{Row}
use Rattle.dual_certificate.specs.declared.proposal_draft.ProposalDraft.{ProposalDraft}
use Rattle.dual_certificate.specs.Proposal.{fits}
use Rattle.dual_certificate.specs.ProposalDraft.{reading_of}
use Rattle.dual_certificate.proofs.DraftFacts.{row_kept, row_due}
use Rattle.dual_certificate.proofs.proposal_draft.ProposalDraft.add_row.Goals as goal

pub returns : goal.returns
returns c =
    let d : ProposalDraft = c.args.self.now in
    let row : Row = c.args.added in
    let new : ProposalDraft = record d { rows = c.push.new.self; total = d.total + row.amount } in
    let begun : is_some d.figures ≡ true = search rules in
    let none : length d.potentials.items ≡ 0 = search rules in
    let fine : fits d.rows.items row ≡ true = rw c.deref.ensures.value at (sym c.may_follow.ensures ∙ c.if-not-may_follow.false) in
    let good : is_ok c.push.result ≡ true = search rules in
    let items : c.push.new.self.items ≡ d.rows.items ++ (row ∷ []) = rw good at c.push.ensures.items in
    let read : reading_of new ≡ record (reading_of d) { rows = d.rows.items ++ (row ∷ []) } = rw items refl in
    (row_kept c.args.roster.now d new row c.requires.draft c.requires.seller c.requires.buyer c.requires.least fine items refl refl refl, row_due d new row begun none fine read)
