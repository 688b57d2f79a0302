-- What came of a service's seats, by their places; and what a service is to do, by its words.
use Rattle.std.specs.Prelude.{ℕ, ◌+◌, List, [], ◌∷◌, map, Option}
use Rattle.doors.specs.Visits.{Visits, Doors}
use Rattle.seats.specs.declared.place.Place.{Place}
use Rattle.program_words.specs.declared.forms.ServiceWords.{ServiceWords}
use Rattle.compress_server.specs.Serve.{SeatRun, ServicePlan, IsPlannedAt}

abbrev pub run_of : {D In Out : Type 0} → Place D In Out → SeatRun D
run_of place = record { door = place.door; end = place.end }

abbrev pub runs_of : {D In Out : Type 0} → List (Place D In Out) → List (SeatRun D)
runs_of places = map run_of places

abbrev pub plan_of : ServiceWords → ServicePlan
plan_of words = record { address = words.address.now; seats = words.seats.value; connections = words.connections }

-- the doors at these places have what was to come to them, the first to the listener's door with this number
abbrev pub ArePlanned : {D In Out : Type 0} → (D → Option Visits) → Option Doors → ℕ → List (Place D In Out) → Type 0
ArePlanned visits doors k [] = Unit {0}
ArePlanned visits doors k (place ∷ places) = IsPlannedAt doors k (visits place.door) × ArePlanned visits doors (k + 1) places
