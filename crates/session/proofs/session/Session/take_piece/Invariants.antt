use Rattle.std.proofs.Common.{◌≤◌, ◌-◌, take, length}
use Rattle.session.specs.Standing.{stand_of, GoesOn}
use Rattle.session.proofs.session.Session.take_piece.Given as goal

abbrev pub invariant-loop-at : goal.invariant-loop-at
invariant-loop-at g l = record {
  within : l.at ≤ length l.piece;
  served : GoesOn (g.C.Clock.tells l.clock) (stand_of l.fn.self) (stand_of l.self) l.fn.line l.line (g.K.Sink.taken l.fn.sink) (g.K.Sink.taken l.sink) (take l.at l.piece);
  never_falls : g.K.Sink.faults l.fn.sink ≤ g.K.Sink.faults l.sink;
}

abbrev pub decreases-loop-at : goal.decreases-loop-at
decreases-loop-at g l = length l.piece - l.at
