use Rattle.std.proofs.Common.{◌≡◌, ℕ, ◌≤◌, ◌<◌, length}
use Rattle.std.specs.Prelude.{slice_index_or}
use Rattle.cycle_lock.specs.Passes.{IsPassOf, figures_of, may_split, Includes}
use Rattle.seats.specs.Places.{TakesIn}
use Rattle.seats.specs.declared.place.Place.{Place}
use Rattle.seats.proofs.serving.take_in_all.Given as goal

abbrev pub invariant-loop-k : goal.invariant-loop-k
invariant-loop-k g l = record {
  own : IsPassOf l.turns l.pass;
  figures : figures_of l.pass ≡ figures_of l.fn.pass;
  old : Includes l.pass l.fn.pass;
  left : may_split l.fn.pass ≤ may_split l.pass;
  size : length l.places ≡ length l.fn.places;
  rest : (j : ℕ) (d : Place _ _ _) → l.k ≤ j → slice_index_or l.places j d ≡ slice_index_or l.fn.places j d;
  taken : (j : ℕ) (d : Place _ _ _) → j < l.k → TakesIn l.pass (slice_index_or l.fn.places j d).pass;
  doors : (j : ℕ) (d : Place _ _ _) → j < length l.fn.places → (slice_index_or l.places j d).door ≡ (slice_index_or l.fn.places j d).door;
  ends : (j : ℕ) (d : Place _ _ _) → j < length l.fn.places → (slice_index_or l.places j d).end ≡ (slice_index_or l.fn.places j d).end;
}
