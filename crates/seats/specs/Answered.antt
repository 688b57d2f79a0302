-- Connections that are answered: what a seat comes to over a desk that no fault has stopped.
use Rattle.std.specs.Prelude.{◌≡◌, ◌⊎◌, ℕ, Bool, false, List, [], ◌∷◌, Some}
use Rattle.doors.specs.Visits.{Visit}
use Rattle.command_types.specs.declared.figures.Figures.{Figures}
use Rattle.command_types.specs.History.{History}
use Rattle.session.specs.Answered.{IsInputAnswered}
use Rattle.session.specs.Serving.{Seat}
use Rattle.seats.specs.declared.seat.SeatEnd.{SeatEnd}
use Rattle.seats.specs.declared.seat.SeatEnd.TheVariants as seat_end
use Rattle.seats.specs.Final.{Final, AreServed}
use Rattle.seats.specs.Sessions.{input_of}

-- no call of either stream failed
abbrev pub IsFaultless : Visit → Type 0
IsFaultless visit = (visit.input_faults ≡ 0) × (visit.output_faults ≡ 0)

-- the connection's input is answered, under the number of its seat
abbrev pub IsVisitAnswered : Figures → History → ℕ → Visit → Type 0
IsVisitAnswered figures h number visit =
    (limit : Bool) × IsInputAnswered figures h number (Some (record { given = []; left = input_of visit })) (Some (record { given = visit.gave; left = visit.left })) (Some []) (Some visit.took) limit

-- The session found no memory at its start: the connection gave and took nothing, and was the seat's last.
pub record FoundNoMemory (visit : Visit) (others : List Visit) (end : SeatEnd) : Type 0 where
  pub gave : visit.gave ≡ []
  pub took : visit.took ≡ []
  pub last : others ≡ []
  pub out : end ≡ seat_end.Memory

-- each of these connections is answered, if no call of its streams failed; behind them the seat's work ended so
abbrev pub AreVisitsAnswered : Figures → History → ℕ → List Visit → SeatEnd → Type 0
AreVisitsAnswered figures h number [] end = Unit {0}
AreVisitsAnswered figures h number (visit ∷ others) end =
    (IsFaultless visit → IsVisitAnswered figures h number visit ⊎ FoundNoMemory visit others end) × AreVisitsAnswered figures h number others end

-- the connections of a seat are answered where the desk that comes back is not stopped
abbrev pub ConnectionsAreAnswered : Type 0
ConnectionsAreAnswered =
    (clock : ℕ → Bool) (final : Final) (seat : Seat) (n : ℕ) (stopped : Bool) (visits : List Visit) (end : SeatEnd) →
    AreServed clock final seat n stopped visits end → final.stopped ≡ false → AreVisitsAnswered seat.figures final.history seat.number visits end
