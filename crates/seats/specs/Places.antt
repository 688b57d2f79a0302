-- Seats at work, each with a pass of one lock and a door.
use Rattle.std.specs.Prelude.{◌≡◌, ℕ, ◌≤◌, ◌<◌, Bool, List, length, slice_index_or, Option, Some, None}
use Rattle.command_types.specs.declared.ask.Entry.{Entry}
use Rattle.command_types.specs.declared.figures.Figures.{Figures}
use Rattle.command_types.specs.Roster.{Rows}
use Rattle.cycle_lock.specs.declared.pass.Pass.{Pass}
use Rattle.cycle_lock.specs.declared.turns.Turns.{Turns}
use Rattle.cycle_lock.specs.Passes.{IsPassOf, figures_of, Includes}
use Rattle.doors.specs.Visits.{Visits}
use Rattle.outside.specs.Faults.{Rose}
use Rattle.session.specs.Serving.{Sight, of_pass, roster_of, Grows}
use Rattle.seats.specs.declared.place.Place.{Place}
use Rattle.seats.specs.declared.seat.SeatEnd.{SeatEnd}
use Rattle.seats.specs.declared.seat.SeatEnd.TheVariants as seat_end
use Rattle.seats.specs.Sessions.{SeatServes}
use Rattle.seats.specs.Final.{Final, HasServed}

-- something of each place of a list, by its number, and of what has become of it
abbrev pub EachPlace : {P : Type 0} → (ℕ → P → P → Type 0) → List P → List P → Type 0
EachPlace {P = P} fact old new = (k : ℕ) (other : P) → k < length old → fact k (slice_index_or old k other) (slice_index_or new k other)

-- it has a pass of this lock, which has seen this
abbrev pub HasPass : {T : Type 0} → Turns T → Sight → Option Pass → Type 0
HasPass turns sight None = ⊥
HasPass turns sight (Some pass) = IsPassOf turns pass × (of_pass pass ≡ sight)

-- it has a pass of this lock, over this roster
abbrev pub IsReady : {T : Type 0} → Turns T → Rows → Option Pass → Type 0
IsReady turns rows None = ⊥
IsReady turns rows (Some pass) = IsPassOf turns pass × (rows ≡ roster_of (of_pass pass))

-- its pass belongs to this lock, and to the desk that had these figures
abbrev pub Belongs : {T : Type 0} → Turns T → Figures → Option Pass → Type 0
Belongs turns figures None = Unit {0}
Belongs turns figures (Some pass) = IsPassOf turns pass × (figures_of pass ≡ figures)

-- the pass takes in that of a seat
abbrev pub TakesIn : Pass → Option Pass → Type 0
TakesIn main None = Unit {0}
TakesIn main (Some pass) = Includes main pass

-- a seat's pass goes on from the one that it had
abbrev pub GoesOn : {T : Type 0} → Turns T → Option Pass → Option Pass → Type 0
GoesOn turns None after = ⊥
GoesOn turns (Some p) None = ⊥
GoesOn turns (Some p) (Some q) = IsPassOf turns q × ((made : List Entry) × Grows (of_pass p) (of_pass q) made)

-- what a seat did by the passes that it had before and after
abbrev pub PassServes : (ℕ → Bool) → Option Pass → Option Pass → Option Visits → Option Visits → ℕ → SeatEnd → Type 0
PassServes clock None after v w most out = ⊥
PassServes clock (Some p) None v w most out = ⊥
PassServes clock (Some p) (Some q) v w most out = SeatServes clock (of_pass p) (of_pass q) v w most out

-- a door's count of faults never falls, and it rose where the seat's work ended for that
pub record CountsFaults (before after : ℕ) (out : SeatEnd) : Type 0 where
  pub never_falls : before ≤ after
  pub failed : out ≡ seat_end.DoorFault → Rose before after

module _ {D In Out : Type 0} (clock : ℕ → Bool) (visits : D → Option Visits) (faults : D → ℕ) (most : ℕ) where
  -- A seat worked at this place, with a pass of the lock.
  pub record Works {T : Type 0} (turns : Turns T) (old new : Place D In Out) : Type 0 where
    pub goes_on : GoesOn turns old.pass new.pass
    pub serves : PassServes clock old.pass new.pass (visits old.door) (visits new.door) most new.end
    pub counts : CountsFaults (faults old.door) (faults new.door) new.end

  -- A seat that began with this sight worked at this place. Its sessions stand in the history of the desk that came back.
  pub record HasWorked (final : Final) (start : Sight) (old new : Place D In Out) : Type 0 where
    pub served : HasServed clock final start (visits old.door) (visits new.door) most new.end
    pub counts : CountsFaults (faults old.door) (faults new.door) new.end
