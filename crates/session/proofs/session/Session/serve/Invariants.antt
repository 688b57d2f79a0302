use Rattle.std.proofs.Common.{◌≡◌, ℕ, ◌≤◌, ◌-◌, [], length, List}
use Rattle.outside.specs.Flow.{Gives}
use Rattle.session.specs.Serving.{of_pass}
use Rattle.session.specs.Standing.{stand_of, Served}
use Rattle.session.proofs.session.Session.serve.Given as goal

abbrev pub invariant-loop-taken : goal.invariant-loop-taken
invariant-loop-taken g l = record {
  within : l.taken ≤ 1073741824;
  served : (bytes : List ℕ) × (length bytes ≡ l.taken) × Gives (g.S.Source.flow l.fn.source) (g.S.Source.flow l.source) bytes
      × Served (g.C.Clock.tells l.clock) (of_pass l.fn.self.asker.pass) [] (g.K.Sink.taken l.fn.sink) (g.K.Sink.taken l.sink) (stand_of l.self) l.line bytes;
  none_waits : l.self.writer.outbox ≡ [];
  source_faults : g.S.Source.faults l.fn.source ≤ g.S.Source.faults l.source;
  sink_faults : g.K.Sink.faults l.fn.sink ≤ g.K.Sink.faults l.sink;
}

abbrev pub decreases-loop-taken : goal.decreases-loop-taken
decreases-loop-taken g l = 1073741824 - l.taken
