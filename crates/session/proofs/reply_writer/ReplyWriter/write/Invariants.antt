use Rattle.std.proofs.Common.{◌≤◌}
use Rattle.session.specs.Pending.{Says}
use Rattle.session.proofs.TextFacts.{text_before}
use Rattle.session.proofs.reply_writer.ReplyWriter.write.Given as goal

abbrev pub invariant-loop-index : goal.invariant-loop-index
invariant-loop-index g l = record {
  said : Says (g.K.Sink.taken l.fn.sink) (g.K.Sink.taken l.sink) l.fn.self.outbox l.self.outbox (text_before l.roster l.given.reply.now l.index);
  never_falls : g.K.Sink.faults l.fn.sink ≤ g.K.Sink.faults l.sink;
}
