use Rattle.std.proofs.Common.{sym, subst}
use Rattle.cycle_lock.specs.declared.pass.Pass.{Pass}
use Rattle.session.specs.Given.{IsGiven}
use Rattle.session.specs.Serving.{of_pass}
use Rattle.session.proofs.GivenFacts.{given_after}
use Rattle.session.proofs.ServedFacts.{at_error}
use Rattle.session.proofs.WholeFacts.{replied_flushed, replied_in_part}
use Rattle.session.proofs.session.Session.answer.Goals as goal

pub invariant_of-given : goal.invariant_of-given
invariant_of-given g c =
    let after = given_after _ _ _ _ c.args.line.now c.reply_to-reply.result c.reply_to-reply.ensures in
    record { given = ∣ subst (λ (p : Pass). IsGiven (of_pass p) c.reply_to-reply.result) (sym c.pass.ensures) after ∣₁ }

pub returns-clause-whole : goal.returns-clause-whole
returns-clause-whole g c =
    replied_flushed _ _ _ _ _ _ c.args.line.now _ c.reply_to-reply.result _ c.args.self.now.own c.reply_to-reply.ensures c.in_ok-write.ensures.said c.in_ok-flush.ensures.takes c.in_ok-flush.ensures.empty c.step_after-step.ensures

pub returns-in_err-flush-clause-in_part : goal.returns-in_err-flush-clause-in_part
returns-in_err-flush-clause-in_part g c =
    at_error _ (replied_in_part _ _ _ _ _ _ c.args.line.now _ c.reply_to-reply.result c.args.self.now.own c.reply_to-reply.ensures c.in_ok-write.ensures.said c.in_err-flush.ensures.front)
