use Rattle.std.proofs.Common.{arith}
use Rattle.session.specs.Serving.{of_pass}
use Rattle.session.proofs.PendingFacts.{says_as, says_both, front_both}
use Rattle.session.proofs.ServedFacts.{at_error}
use Rattle.session.proofs.RunTextFacts.{replies_more, replies_front, given_at}
use Rattle.session.proofs.reply_writer.ReplyWriter.write_all.Goals as goal

pub invariant_of-given : goal.invariant_of-given
invariant_of-given g c =
    record { given = ∣ given_at (of_pass c.args.pass.now) c.args.replies.now c.loop-reply.reply-index c.reply-item.result c.reply-item.is (omega arith) c.requires.given ∣₁ }

pub returns-in_err-write-clause-front : goal.returns-in_err-write-clause-front
returns-in_err-write-clause-front g c =
    at_error _ (replies_front _ _ _ c.args.roster.now c.args.replies.now c.loop-reply.reply-index c.reply-item.result c.reply-item.is (omega arith)
    (front_both _ _ _ _ _ _ _ c.loop-reply.invariant.said c.in_err-write.ensures.front))

pub loop-reply-preserved : goal.loop-reply-preserved
loop-reply-preserved g c = record {
  said = says_as _ _ _ _ _ _ (replies_more c.args.roster.now c.args.replies.now c.loop-reply.reply-index c.reply-item.result c.reply-item.is (omega arith)) (says_both _ _ _ _ _ _ _ _ c.loop-reply.invariant.said c.in_ok-write.ensures.said);
  never_falls = omega (arith, c.loop-reply.invariant.never_falls, c.in_ok-write.ensures.counts.0);
}
