use Rattle.compress_server.specs.Told.{reply_told}
use Rattle.compress_server.proofs.ReplayFacts.{lines_more}
use Rattle.compress_server.proofs.replay_text.push_replies.Goals as goal

pub loop-reply-preserved : goal.loop-reply-preserved
loop-reply-preserved c =
    lines_more reply_told c.args.replies.now c.loop-reply.reply-index c.reply-item.result c.args.text.now.items c.loop-reply.text.items c.push_reply.new.text.items c.loop-reply-test.true c.reply-item.is c.loop-reply.invariant
    c.in_ok-push_reply.ensures
