use Rattle.std.proofs.Common.{◌∙◌, sym, ap, arith}
use Rattle.dual_certificate.specs.ProposalLine.{pieces}
use Rattle.dual_certificate.specs.Proposal.{after_parts, with_pieces}
use Rattle.dual_certificate.specs.ProposalDraft.{reading_of}
use Rattle.dual_certificate.proofs.PartFacts.{solutions_within}
use Rattle.dual_certificate.proofs.ReadFacts.{stands, fails, last}
use Rattle.dual_certificate.proofs.proposal_reader.read_lines.Goals as goal

pub loop-line-init : goal.loop-line-init
loop-line-init c =
    let joined = c.args.joined in
    (ap (λ r. with_pieces c.args.roster.now joined.row r (pieces 10 joined.rest.now)) (sym c.behind-draft.ensures.reading), c.behind-draft.ensures.draft c.args.roster.now, c.requires.short)

pub loop-line-preserved : goal.loop-line-preserved
loop-line-preserved c =
    let inv = c.loop-line.invariant in
    let took = c.in-Ok.ensures in
    let goes_on = stands c.args.roster.now c.loop-line.row (reading_of c.loop-line.draft) (reading_of c.take_line.new.self) c.loop-line.rest.now c.in-Some.line.now c.in-Some.more.now c.in-Some.ensures.some took.1 in
    (inv.0 ∙ goes_on, took.0, omega (arith, inv.2, c.in-Some.ensures.shorter))

pub returns-in-Err-clause-fault : goal.returns-in-Err-clause-fault
returns-in-Err-clause-fault c =
    fails c.args.roster.now c.loop-line.row (reading_of c.loop-line.draft) c.loop-line.rest.now c.in-Some.line.now c.in-Some.more.now c.in-Err.fault (with_pieces c.args.roster.now c.args.joined.row (after_parts c.args.joined.parts.items) (pieces 10 c.args.joined.rest.now)) c.loop-line.invariant.0 c.in-Some.ensures.some c.in-Err.ensures

pub returns-clause-parts : goal.returns-clause-parts
returns-clause-parts c =
    let end = c.loop-line.invariant.0 ∙ last c.args.roster.now c.loop-line.row (reading_of c.loop-line.draft) c.loop-line.rest.now c.in_default.ensures.none in
    rw end c.parts_of.ensures.parts

pub returns-clause-fault : goal.returns-clause-fault
returns-clause-fault c =
    let end = c.loop-line.invariant.0 ∙ last c.args.roster.now c.loop-line.row (reading_of c.loop-line.draft) c.loop-line.rest.now c.in_default.ensures.none in
    rw end c.parts_of.ensures.fault

pub returns-clause-solutions : goal.returns-clause-solutions
returns-clause-solutions c =
    solutions_within (λ v. v.items) c.loop-line.draft.parts.items c.parts_of.result c.loop-line.invariant.1.good c.parts_of.ensures.kept
