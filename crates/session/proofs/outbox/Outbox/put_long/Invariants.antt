use Rattle.std.proofs.Common.{◌≡◌, ◌≤◌, ℕ, List, ◌++◌, length}
use Rattle.session.specs.Pending.{Says}
use Rattle.session.proofs.outbox.Outbox.put_long.Given as goal

abbrev pub invariant-loop-rest : goal.invariant-loop-rest
invariant-loop-rest g l = record {
  said : (front : List ℕ) × (l.text ≡ front ++ l.rest) × Says (g.K.Sink.taken l.fn.sink) (g.K.Sink.taken l.sink) l.fn.self l.self front;
  never_falls : g.K.Sink.faults l.fn.sink ≤ g.K.Sink.faults l.sink;
}

abbrev pub decreases-loop-rest : goal.decreases-loop-rest
decreases-loop-rest g l = length l.rest
