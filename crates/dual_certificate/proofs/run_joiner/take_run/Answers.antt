use Rattle.std.proofs.Common.{List, ℕ, sym, subst}
use Rattle.dual_certificate.specs.Runs.{ReadsParts}
use Rattle.dual_certificate.proofs.RunFacts.{first_part}
use Rattle.dual_certificate.proofs.run_joiner.take_run.Goals as goal

pub take_part-requires-clause-part : goal.take_part-requires-clause-part
take_part-requires-clause-part c =
    (first_part c.args.roster.now c.loop-read.joined.rest.now c.loop-read.read-iterator.rest.items c.next.new.self.rest.items c.in-Some.read c.in-Some.ensures.steps.0 c.loop-read.invariant.reads).0

pub loop-read-preserved : goal.loop-read-preserved
loop-read-preserved c =
    let i = c.loop-read.invariant in
    let first = first_part c.args.roster.now c.loop-read.joined.rest.now c.loop-read.read-iterator.rest.items c.next.new.self.rest.items c.in-Some.read c.in-Some.ensures.steps.0 i.reads in
    let taken = c.in_ok-taken.ensures in
    record {
      reads = subst (λ (t : List ℕ). ReadsParts c.args.roster.now t c.next.new.self.rest.items) (sym (taken.rest c.if-not-taken.false)) first.1;
      short = taken.short;
      joined = λ bytes h. taken.joined bytes (i.joined bytes h);
    }
