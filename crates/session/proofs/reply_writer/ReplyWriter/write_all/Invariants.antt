use Rattle.std.proofs.Common.{◌≤◌, take}
use Rattle.session.specs.Pending.{Says}
use Rattle.session.specs.Runs.{replies_text}
use Rattle.session.proofs.reply_writer.ReplyWriter.write_all.Given as goal

abbrev pub invariant-loop-reply : goal.invariant-loop-reply
invariant-loop-reply g l = record {
  said : Says (g.K.Sink.taken l.fn.sink) (g.K.Sink.taken l.sink) l.fn.self.outbox l.self.outbox (replies_text l.roster (take l.reply-index l.replies));
  never_falls : g.K.Sink.faults l.fn.sink ≤ g.K.Sink.faults l.sink;
}
