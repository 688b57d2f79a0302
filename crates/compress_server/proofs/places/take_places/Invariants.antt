use Rattle.std.proofs.Common.{◌≡◌, ◌≤◌, length, All}
use Rattle.std.specs.Prelude.{vec_capacity}
use Rattle.doors.specs.Visits.{IsNew}
use Rattle.compress_server.specs.Serve.{LendsMany}
use Rattle.compress_server.specs.Runs.{ArePlanned}
use Rattle.compress_server.proofs.places.take_places.Given as goal

abbrev pub invariant-loop : goal.invariant-loop
invariant-loop g l = record {
  counted : length l.places.items ≡ l.counter;
  room : l.count ≤ vec_capacity l.places;
  lends : LendsMany (length l.places.items) (g.L.Listener.doors l.fn.listener) (g.L.Listener.doors l.listener);
  planned : ArePlanned g.L.Door.Door.visits (g.L.Listener.doors l.fn.listener) 0 l.places.items;
  new : All (λ place. IsNew (g.L.Door.Door.visits place.door) × (g.L.Door.Door.faults place.door ≡ 0)) l.places.items;
  faults : g.L.Listener.faults l.fn.listener ≤ g.L.Listener.faults l.listener;
  waits : g.L.Listener.idle l.listener ≡ g.L.Listener.idle l.fn.listener;
}
