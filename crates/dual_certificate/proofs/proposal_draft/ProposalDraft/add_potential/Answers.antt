use Rattle.std.proofs.Common.{◌≡◌, ◌∙◌, ◌<◌, ◌++◌, ℤ, [], ◌∷◌, length, true, is_some, refl, sym, ap, arith, rules, w32, SFits}
use Rattle.std.specs.Result.{is_ok}
use Rattle.std.proofs.lemmas.Int.{to_z-of_z}
use Rattle.std.proofs.lemmas.List.Elements.{All-push}
use Rattle.network_laws.specs.Solutions.{IsPotential}
use Rattle.std.specs.Str.{bytes_eq}
use Rattle.command_types.specs.declared.roster.MemberRow.{MemberRow}
use Rattle.command_types.specs.Roster.{is_member_at}
use Rattle.dual_certificate.specs.declared.proposal_draft.ProposalDraft.{ProposalDraft}
use Rattle.dual_certificate.specs.ProposalDraft.{reading_of}
use Rattle.dual_certificate.proofs.DraftFacts.{member_at, pot_due}
use Rattle.dual_certificate.proofs.proposal_draft.ProposalDraft.add_potential.Goals as goal

pub returns : goal.returns
returns c =
    let roster = c.args.roster.now in
    let d : ProposalDraft = c.args.self.now in
    let new : ProposalDraft = record d { potentials = c.push.new.self } in
    let members = c.members-members.result.now in
    let place = c.len-place.result in
    let value : ℤ = c.args.value in
    let begun : is_some d.figures ≡ true = search rules in
    let size : place ≡ length d.potentials.items = search rules in
    let inside : place < length members = omega arith in
    let named : is_member_at roster (length d.potentials.items) c.args.name ≡ true = member_at roster members place (length d.potentials.items) c.index-members-place.result c.args.name c.members-members.ensures.rows size inside c.index-members-place.is (ap (λ (r : MemberRow). bytes_eq r.name c.args.name) c.index-members-place.is ∙ sym c.is.ensures ∙ c.if-not-is.false) in
    let good : is_ok c.push.result ≡ true = search rules in
    let fits : SFits w32 c.get.result = search rules in
    let pushed : c.push.new.self.items ≡ d.potentials.items ++ (c.get.result ∷ []) = simp to_z-of_z at (rw good at c.push.ensures.items) in
    let items : c.push.new.self.items ≡ d.potentials.items ++ (value ∷ []) = pushed ∙ ap (λ z. d.potentials.items ++ (z ∷ [])) c.get.ensures.value in
    let read : reading_of new ≡ record (reading_of d) { potentials = d.potentials.items ++ (value ∷ []) } = rw items refl in
    let kept = All-push IsPotential d.potentials.items c.get.result c.requires.in_range c.get.ensures.range in
    (record { rows = c.requires.rows; all = c.requires.all; in_range = rw pushed kept; good = c.requires.good }, pot_due roster d new c.args.name value begun named read)
