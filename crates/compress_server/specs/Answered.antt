-- Every line of a script and of a service's connections is answered, where nothing outside fails.
use Rattle.std.specs.Prelude.{◌≡◌, ◌⊎◌, ℕ, ◌+◌, Bool, true, false, List, [], ◌∷◌, map, Option, Some, None}
use Rattle.doors.specs.Visits.{Visits, Doors}
use Rattle.command_types.specs.declared.figures.Figures.{Figures}
use Rattle.command_types.specs.History.{History}
use Rattle.house.specs.House.{HouseView, figures_of}
use Rattle.session.specs.Answered.{IsInputAnswered}
use Rattle.seats.specs.declared.seat.SeatEnd.{SeatEnd}
use Rattle.seats.specs.Answered.{AreVisitsAnswered}
use Rattle.compress_server.specs.Complete.{HasFault, IsUndisturbed}
use Rattle.compress_server.specs.Housed.{OverJournal}
use Rattle.compress_server.specs.Seen.{World}
use Rattle.compress_server.specs.Serve.{ServicePlan, SeatRun, HaveServed, HaveGiven, IsUnasked, Returned}
use Rattle.compress_server.specs.Telling.{Ends}
use Rattle.program_words.specs.Words.{Form, ServiceNumbers}

-- The house that was opened on the script's journal, whose history is the one for which the disk stands, answered the script's input; the last value tells whether the session's limit ended it.
abbrev pub AnswersInput : List ℕ → World → World → Bool → Type 0
AnswersInput roster before after limit =
    OverJournal before.files.folder roster before.seen.disk after.seen.disk (λ v w.
    IsInputAnswered (figures_of v) w.history 0 before.input.flow after.input.flow before.seen.output.taken after.seen.output.taken limit)

-- a script that nothing outside disturbs is answered: to its end at status 0, and up to the limit at status 8; the others are a fault of the roster's file, a damaged journal and want of memory
abbrev pub ScriptsAreAnswered : {D : Type 0} → (D → Option Visits) → Type 0
ScriptsAreAnswered visits =
    (clock : ℕ → Bool) (roster journal : List ℕ) (workers : ℕ) (before after : World) (status : ℕ) →
    Ends clock visits (Some (Form.Script roster journal workers)) before after status → IsUndisturbed before after →
    ((status ≡ 0) × AnswersInput roster before after false)
    ⊎ (((status ≡ 8) × AnswersInput roster before after true)
    ⊎ (((status ≡ 3) × HasFault before.files (Form.Script roster journal workers)) ⊎ ((status ≡ 7) ⊎ (status ≡ 9))))

-- each of a seat's connections is answered, if no call of its streams failed; the door may tell nothing
abbrev pub IsSeatAnswered : Figures → History → ℕ → Option Visits → SeatEnd → Type 0
IsSeatAnswered figures h number None end = Unit {0}
IsSeatAnswered figures h number (Some door) end = AreVisitsAnswered figures h number door.back end

module _ {D : Type 0} (visits : D → Option Visits) where
  -- those of all seats, the first with this number
  abbrev pub AreSeatsAnswered : Figures → History → ℕ → List (SeatRun D) → Type 0
  AreSeatsAnswered figures h number [] = Unit {0}
  AreSeatsAnswered figures h number (seat ∷ seats) = IsSeatAnswered figures h number (visits seat.door) seat.end × AreSeatsAnswered figures h (number + 1) seats

  -- the seats served the connections that were to come to their doors, these came back to the listener, and the connections of each are answered
  pub record AnswersDoors (clock : ℕ → Bool) (plan : ServicePlan) (v w : HouseView) (before after : Option Doors) : Type 0 where
    pub seats : List (SeatRun D)
    pub served : HaveServed clock visits plan v w seats
    pub returned : Returned visits plan.address before after (map (λ (seat : SeatRun D). seat.door) seats)
    pub given : HaveGiven visits before 0 seats
    pub answered : AreSeatsAnswered (figures_of v) w.history 1 seats

  -- in a service that nothing outside disturbs each connection is answered; or the roster's file has a fault, the journal is damaged, or there was no memory, and none was given
  abbrev pub ServicesAreAnswered : Type 0
  ServicesAreAnswered =
      (clock : ℕ → Bool) (roster journal address : List ℕ) (numbers : ServiceNumbers) (before after : World) (status : ℕ) →
      Ends clock visits (Some (Form.Serve roster journal address numbers)) before after status →
      IsUndisturbed before after →
      ((((status ≡ 3) × HasFault before.files (Form.Serve roster journal address numbers)) ⊎ ((status ≡ 7) ⊎ (status ≡ 9)))
      × IsUnasked visits address before.seen.listener.doors after.seen.listener.doors)
      ⊎ OverJournal before.files.folder roster before.seen.disk after.seen.disk (λ v w.
      AnswersDoors clock (record { address = address; seats = numbers.seats; connections = numbers.connections }) v w before.seen.listener.doors after.seen.listener.doors)
