use Rattle.std.proofs.Common.{◌≡◌, ◌++◌, [], ◌∷◌, length, true, None, refl, ap, arith, rules}
use Rattle.std.specs.Result.{is_ok}
use Rattle.std.proofs.lemmas.List.Elements.{All-nil, All-push}
use Rattle.network_laws.specs.Solutions.{IsPotential, IsSolution}
use Rattle.dual_certificate.specs.declared.proposal_draft.ProposalDraft.{ProposalDraft}
use Rattle.dual_certificate.specs.declared.proposal_part.ProposalPart.{ProposalPart}
use Rattle.dual_certificate.specs.Proposal.{finished}
use Rattle.dual_certificate.specs.ProposalDraft.{reading_of}
use Rattle.dual_certificate.proofs.DraftFacts.{no_rows, part_due}
use Rattle.dual_certificate.proofs.proposal_draft.ProposalDraft.finish.Goals as goal

pub returns : goal.returns
returns c =
    let roster = c.args.roster.now in
    let d : ProposalDraft = c.args.self.now in
    let new : ProposalDraft = record d { parts = c.push.new.self; figures = None; rows = c.replace-rows.new.dest; total = 0; potentials = c.replace-potentials.new.dest } in
    let rows : c.replace-rows.new.dest.items ≡ [] = rw c.replace-rows.ensures.after c.new.ensures.items in
    let potentials : c.replace-potentials.new.dest.items ≡ [] = rw c.replace-potentials.ensures.after c.new-2.ensures.items in
    let good : is_ok c.push.result ≡ true = search rules in
    let count : length c.members-members.result.now ≡ length roster.members = ap length c.members-members.ensures.rows in
    let each : length d.potentials.items ≡ length roster.members = omega arith in
    let pushed = rw good at c.push.ensures.items in
    let network : c.in-Ok.network ≡ record { members = length roster.members; rows = d.rows.items } = rw (c.replace-rows.ensures.value, count) at c.in-Ok.ensures.value in
    let solution : c.new-3.result ≡ record { network = record { members = length roster.members; rows = d.rows.items }; potentials = d.potentials.items } = rw (network, c.replace-potentials.ensures.value) at c.new-3.ensures in
    let read : reading_of new ≡ record (reading_of d) { parts = d.parts.items ++ (finished roster (reading_of d) c.in-Some.figures c.args.value ∷ []); figures = None; rows = []; potentials = [] } = rw (pushed, solution, rows, potentials) refl in
    let fine : IsSolution (record { network = record { members = length roster.members; rows = d.rows.items }; potentials = d.potentials.items }) = record {
      network = record { few = omega (arith, c.members-members.ensures.few, count); rows = c.requires.rows };
      one_each = each;
      in_range = c.requires.in_range;
    } in
    let parts : c.push.new.self.items ≡ d.parts.items ++ (finished roster (reading_of d) c.in-Some.figures c.args.value ∷ []) = rw (pushed, solution) refl in
    let good = All-push (λ (part : ProposalPart). IsSolution part.solution) d.parts.items (finished roster (reading_of d) c.in-Some.figures c.args.value) c.requires.good fine in
    (record { rows = rw rows (no_rows (length roster.members)); all = rw rows refl; in_range = rw potentials (All-nil IsPotential); good = rw parts good }, part_due roster d new c.in-Some.figures c.args.value c.in-Some.is each read)
