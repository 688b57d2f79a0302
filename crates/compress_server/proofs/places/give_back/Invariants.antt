use Rattle.std.proofs.Common.{◌≡◌}
use Rattle.compress_server.proofs.PlaceFacts.{IsFrontBack}
use Rattle.compress_server.proofs.places.give_back.Given as goal

abbrev pub invariant-loop-place : goal.invariant-loop-place
invariant-loop-place g l = IsFrontBack g.L.Door.Door.visits g.L.Door.Door.faults (g.L.Listener.doors l.fn.listener) (g.L.Listener.doors l.listener) (g.L.Listener.faults l.fn.listener) (g.L.Listener.faults l.listener) l.fn.places.items l.place-iterator.rest.items
    × (g.L.Listener.idle l.listener ≡ g.L.Listener.idle l.fn.listener)
