use Rattle.std.proofs.Common.{◌≡◌, ◌≤◌, List}
use Rattle.command_types.specs.declared.ask.Entry.{Entry}
use Rattle.cycle_lock.specs.Passes.{IsPassOf, seen}
use Rattle.session.specs.Serving.{of_pass, Grows}
use Rattle.seats.specs.declared.seat.SeatEnd.TheVariants as seat_end
use Rattle.seats.specs.Sessions.{SeatServes}
use Rattle.seats.proofs.seat.Service.serve_door.Given as goal

abbrev pub invariant-loop : goal.invariant-loop
invariant-loop g l = record {
  own : IsPassOf l.turns l.pass;
  roster : l.self.host.roster.now ≡ (seen l.pass).base.state.roster;
  grows : (made : List Entry) × Grows (of_pass l.fn.pass) (of_pass l.pass) made;
  serves : SeatServes (g.C.Clock.tells l.self.host.clock.now) (of_pass l.fn.pass) (of_pass l.pass) (g.D.Door.visits l.fn.door) (g.D.Door.visits l.door) l.counter seat_end.Most;
  faults : g.D.Door.faults l.fn.door ≤ g.D.Door.faults l.door;
}
