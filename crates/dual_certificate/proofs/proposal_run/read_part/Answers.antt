use Rattle.std.proofs.Common.{◌∙◌, Some, ◌++◌, ◌∷◌, [], sym, ap, arith}
use Rattle.dual_certificate.specs.Proposal.{after_parts, with_said}
use Rattle.dual_certificate.specs.Runs.{inside}
use Rattle.dual_certificate.proofs.ReadFacts.{stands}
use Rattle.dual_certificate.proofs.RunFacts.{goes_further}
use Rattle.dual_certificate.proofs.proposal_run.read_part.Goals as goal

pub loop-line-init : goal.loop-line-init
loop-line-init c =
    let roster = c.args.roster.now in
    let begins = c.in-Some-begin_part.ensures in
    record {
      draft = begins.draft;
      shorter = omega (arith, c.in-Some.ensures.shorter);
      says = λ n before count.
          stands roster n (after_parts before) (inside before c.in-Some-begin_part.begun) c.args.text.now c.in-Some.head.now c.in-Some.behind.now c.in-Some.ensures.some
          (ap (with_said roster (after_parts before)) (sym c.in-Some-read_line.ensures) ∙ begins.says before count);
    }

pub loop-line-preserved : goal.loop-line-preserved
loop-line-preserved c =
    let roster = c.args.roster.now in
    let i = c.loop-line.invariant in
    let adds = c.in_ok-fits.ensures c.if-not-fits.false in
    record {
      draft = adds.draft;
      shorter = omega (arith, i.shorter, c.in-Some-cut.ensures.shorter);
      says = λ n before count.
          goes_further roster n c.loop-line.lines before c.loop-line.draft (inside before c.add_line.new.draft) c.args.text.now c.loop-line.rest.now c.in-Some-cut.line.now c.in-Some-cut.more.now c.in-Some-read_line-2.said
          (i.says n before count) c.in-Some-cut.ensures.some (sym c.in-Some-read_line-2.ensures) (adds.says before);
    }

pub returns-in-Bound : goal.returns-in-Bound
returns-in-Bound c =
    let roster = c.args.roster.now in
    let i = c.loop-line.invariant in
    let ends = rw c.in-Some-2.is at c.in_ok-part.ensures in
    record {
      good = ends.good;
      shorter = omega (arith, i.shorter, c.in-Some-cut.ensures.shorter);
      says = λ n before count.
          goes_further roster n c.loop-line.lines before c.loop-line.draft (after_parts (before ++ c.in-Some-2.part ∷ [])) c.args.text.now c.loop-line.rest.now c.in-Some-cut.line.now c.in-Some-cut.more.now _
          (i.says n before count) c.in-Some-cut.ensures.some (sym c.in-Some-read_line-2.ensures ∙ ap Some c.in-Bound.is) (ends.says before);
    }
