-- What seats did, by the history of the desk that comes back in the end.
use Rattle.std.specs.Prelude.{◌≡◌, ℕ, ◌≤◌, Bool, true, List, [], ◌∷◌, Option, Some, None}
use Rattle.command_types.specs.History.{History, end_of, cut_after, entries_of_seat}
use Rattle.doors.specs.Visits.{Visit, Visits}
use Rattle.session.specs.Serving.{Seat, Sight}
use Rattle.seats.specs.declared.seat.SeatEnd.{SeatEnd}
use Rattle.seats.specs.Sessions.{IsVisit, MayGoOn, AreNext}

-- the desk that comes back: its history, and whether it is stopped
pub record Final : Type 0 where
  pub history : History
  pub stopped : Bool

-- what a new seat with this number has seen, where it was seated by one that had seen this
abbrev pub seated : Sight → ℕ → Sight
seated sight number = record sight { seat = record (sight.seat) { number = number; splits = 0 } }

-- what a seat had seen at a position of this history
abbrev pub sight_at : Seat → History → ℕ → Bool → Sight
sight_at seat h n stopped = record { seat = seat; history = cut_after h n; stopped = stopped }

-- From the position n on, the connections were the seat's sessions, one after another: each went on from the position at which the one before ended. Behind the last the seat has no entry, and a stop that it was told is the desk's. Then the seat's work ended so.
abbrev pub AreServed : (ℕ → Bool) → Final → Seat → ℕ → Bool → List Visit → SeatEnd → Type 0
AreServed clock final seat n stopped [] out = (entries_of_seat final.history seat.number n ≡ []) × (stopped ≡ true → final.stopped ≡ true)
AreServed clock final seat n stopped (visit ∷ visits) out =
    (m : ℕ) × (stop : Bool) × (n ≤ m) × (m ≤ end_of final.history)
    × (first : IsVisit clock (sight_at seat final.history n stopped) (sight_at seat final.history m stop) visit) × MayGoOn first.end visits out
    × AreServed clock final seat m stop visits out

-- What a seat did that began with this sight, by what its door tells: it served the door's next connections, and they stand in the final history.
abbrev pub HasServed : (ℕ → Bool) → Final → Sight → Option Visits → Option Visits → ℕ → SeatEnd → Type 0
HasServed clock final start None after most out = after ≡ None
HasServed clock final start (Some v) None most out = ⊥
HasServed clock final start (Some v) (Some w) most out =
    (visits : List Visit) × AreNext v w most out visits × AreServed clock final start.seat (end_of start.history) start.stopped visits out
