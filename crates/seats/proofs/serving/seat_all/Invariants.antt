use Rattle.std.proofs.Common.{◌≡◌, ℕ, ◌+◌, ◌<◌, length}
use Rattle.std.specs.Prelude.{slice_index_or}
use Rattle.cycle_lock.specs.Passes.{IsPassOf, numbers, may_split}
use Rattle.session.specs.Serving.{of_pass}
use Rattle.seats.specs.Final.{seated}
use Rattle.seats.specs.Places.{HasPass}
use Rattle.seats.specs.declared.place.Place.{Place}
use Rattle.seats.proofs.serving.seat_all.Given as goal

abbrev pub invariant-loop-k : goal.invariant-loop-k
invariant-loop-k g l = record {
  own : IsPassOf l.turns l.pass;
  numbers : numbers l.pass ≡ numbers l.fn.pass;
  main : seated (of_pass l.pass) 0 ≡ seated (of_pass l.fn.pass) 0;
  left : may_split l.pass + l.k ≡ may_split l.fn.pass;
  size : length l.places ≡ length l.fn.places;
  seats : (j : ℕ) (d : Place _ _ _) → j < l.k → HasPass l.turns (seated (of_pass l.fn.pass) (j + 1)) (slice_index_or l.places j d).pass;
  doors : (j : ℕ) (d : Place _ _ _) → j < length l.fn.places → (slice_index_or l.places j d).door ≡ (slice_index_or l.fn.places j d).door;
}
