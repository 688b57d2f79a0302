use Rattle.std.proofs.Common.{length, ◌-◌, ◌≤◌, take}
use Rattle.outside.specs.Flow.{Takes}
use Rattle.outside.proofs.sink.write_all.Given as goal

abbrev pub invariant-loop-done : goal.invariant-loop-done
invariant-loop-done g l = record {
  in_range : l.done ≤ length l.bytes;
  took : Takes (g.K.Sink.taken l.fn.sink) (g.K.Sink.taken l.sink) (take l.done l.bytes);
  never_falls : g.K.Sink.faults l.fn.sink ≤ g.K.Sink.faults l.sink;
}

abbrev pub decreases-loop-done : goal.decreases-loop-done
decreases-loop-done g l = length l.bytes - l.done
