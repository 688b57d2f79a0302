use Rattle.std.proofs.Common.{◌≤◌, ◌-◌, take, drop, length}
use Rattle.session.specs.AskedRun.{RunsOn}
use Rattle.session.specs.Standing.{stand_of}
use Rattle.session.proofs.session.Session.take_run.Given as goal

abbrev pub invariant-loop-at : goal.invariant-loop-at
invariant-loop-at g l = record {
  within : l.at ≤ length l.self.run.commands.items;
  runs : RunsOn (g.C.Clock.tells l.clock) (stand_of l.fn.self) (stand_of l.self) (g.K.Sink.taken l.fn.sink) (g.K.Sink.taken l.sink) (take l.end l.piece) (drop l.at l.self.run.commands.items);
  never_falls : g.K.Sink.faults l.fn.sink ≤ g.K.Sink.faults l.sink;
}

abbrev pub decreases-loop-at : goal.decreases-loop-at
decreases-loop-at g l = length l.self.run.commands.items - l.at
