use Rattle.std.proofs.Common.{List, sym, subst}
use Rattle.dual_certificate.specs.declared.proposal_run.ReadPart.{ReadPart}
use Rattle.dual_certificate.specs.Runs.{IsPart, ReadsParts}
use Rattle.dual_certificate.proofs.RunFacts.{no_parts, parts_more}
use Rattle.dual_certificate.proofs.proposal_run.read_run.Goals as goal

pub loop-init : goal.loop-init
loop-init c =
    let none = no_parts c.args.roster.now c.args.text.now in
    record { reads = subst (λ (ps : List ReadPart). ReadsParts c.args.roster.now c.args.text.now ps) (sym c.new-parts.ensures.items) none.0; rest = rw c.new-parts.ensures.items none.1 }

pub loop-preserved : goal.loop-preserved
loop-preserved c =
    let roster = c.args.roster.now in
    let i = c.loop.invariant in
    let is = rw c.in-Some.is at c.in_ok-read.ensures in
    let more = parts_more roster c.args.text.now c.loop.parts.items c.in-Some.read i.reads (subst (λ t. IsPart roster t c.in-Some.read) (sym i.rest) is) in
    record { reads = rw c.in_ok-push.ensures.items more.0; rest = rw c.in_ok-push.ensures.items more.1 }
