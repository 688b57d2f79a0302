-- What a service does: its seats, their doors, and the line that it writes in the end.
use Rattle.std.specs.Prelude.{◌≡◌, ◌⊎◌, ℕ, ◌+◌, ◌≤◌, ◌<◌, Bool, true, false, List, [], ◌∷◌, ◌++◌, length, map, All, Option, Some, None, codes, decimal, if◌then◌else◌}
use Rattle.std.specs.List.{list_any}
use Rattle.outside.specs.Faults.{Rose}
use Rattle.outside.specs.Flow.{Takes, TakesFront}
use Rattle.outside.specs.declared.trouble.Trouble.{Trouble}
use Rattle.outside.specs.declared.trouble.Trouble.TheVariants as trouble
use Rattle.doors.specs.Visits.{Visits, Doors, Binds, IsNew, IsPlanned, TakesBack}
use Rattle.command_types.specs.History.{end_of, entries_of_seat}
use Rattle.command_types.specs.Roster.{Rows}
use Rattle.cycle_lock.specs.Passes.{LockId, Continues}
use Rattle.house.specs.House.{HouseView, figures_of, is_stopped}
use Rattle.session.specs.Serving.{Seat}
use Rattle.seats.specs.declared.seat.SeatEnd.{SeatEnd}
use Rattle.seats.specs.declared.seat.SeatEnd.TheVariants as seat_end
use Rattle.seats.specs.Final.{Final, AreServed}
use Rattle.seats.specs.Sessions.{input_of}
use Rattle.journal_core.specs.declared.fault.JournalFault.{JournalFault}
use Rattle.compress_server.specs.declared.ending.End.{End}
use Rattle.compress_server.specs.declared.ending.End.TheVariants as ends
use Rattle.compress_server.specs.declared.load.LoadFault.{LoadFault}
use Rattle.compress_server.specs.declared.serve.ServiceEnd.{ServiceEnd}
use Rattle.compress_server.specs.declared.serve.ServiceEnd.TheVariants.{Done, Unloaded, Unopened, ListenerFault, Stopped, SinkFault, Memory}
use Rattle.compress_server.specs.Files.{FilesState, OverRoster, IsRosterUnread}
use Rattle.compress_server.specs.Housed.{OverHouse, OpeningFails}
use Rattle.compress_server.specs.Seen.{OutputState, ListenerState, Seen}
use Rattle.compress_server.specs.Statuses.{load_end, journal_end}

-- the end of the call
abbrev pub service_end : ServiceEnd → End
service_end Done = ends.Done
service_end (Unloaded fault) = load_end fault
service_end (Unopened fault) = journal_end fault
service_end ListenerFault = ends.ListenerFault
service_end Stopped = ends.DiskFault
service_end SinkFault = ends.SinkFault
service_end Memory = ends.Memory

-- the status beside 0, 3 and 9 that may come where nothing outside fails: a damaged journal
abbrev pub service_statuses : List ℕ
service_statuses = 7 ∷ []

-- at which address a service listens, how many seats serve, and how many connections each of them at most
pub record ServicePlan : Type 0 where
  pub address : List ℕ
  pub seats : ℕ
  pub connections : ℕ

-- the line that tells the length of the history in the end
abbrev pub history_line : ℕ → List ℕ
history_line n = codes "history " ++ decimal n ++ codes "\n"

-- what a seat with this number sees in a house that was just opened
abbrev pub seat_at : LockId → HouseView → ℕ → Seat
seat_at lock v number = record { lock = lock; figures = figures_of v; number = number; splits = 0 }

abbrev pub final_of : HouseView → Final
final_of w = record { history = w.history; stopped = is_stopped w }

-- A seat's door when it was taken back, where it may serve at most so many connections: all connections that it gave were given back, and they are the seat's sessions, one after another, from the opening on, in the history of the house that came back. The seat ended where no connection was to come, where it had served as many as it may, where the door failed or for want of memory.
pub record IsSeat (clock : ℕ → Bool) (most_visits : ℕ) (lock : LockId) (v w : HouseView) (number : ℕ) (door : Visits) (end : SeatEnd) : Type 0 where
  pub none_out : door.out ≡ 0
  pub few : length door.back ≤ most_visits
  pub most : end ≡ seat_end.Most → length door.back ≡ most_visits
  pub over : end ≡ seat_end.Over → door.coming ≡ []
  pub served : AreServed clock (final_of w) (seat_at lock v number) (end_of v.history) false door.back end

-- the same of a door that may tell nothing
abbrev pub IsSeatAt : (ℕ → Bool) → ℕ → LockId → HouseView → HouseView → ℕ → Option Visits → SeatEnd → Type 0
IsSeatAt clock most_visits lock v w number None end = Unit {0}
IsSeatAt clock most_visits lock v w number (Some door) end = IsSeat clock most_visits lock v w number door end

-- whether a seat ended for want of memory, and whether its door failed
abbrev pub had_no_memory : SeatEnd → Bool
had_no_memory seat_end.Over = false
had_no_memory seat_end.Most = false
had_no_memory seat_end.DoorFault = false
had_no_memory seat_end.Memory = true

abbrev pub had_door_fault : SeatEnd → Bool
had_door_fault seat_end.Over = false
had_door_fault seat_end.Most = false
had_door_fault seat_end.DoorFault = true
had_door_fault seat_end.Memory = false

-- the end of a service whose listener was in trouble
abbrev pub trouble_end : Trouble → ServiceEnd
trouble_end trouble.Failed = ListenerFault
trouble_end trouble.Memory = Memory

-- the end of a service whose seats served: whether a seat had no memory, a door failed, a fault of the disk stopped the house, and the line was written whole
abbrev pub end_of_seats : Bool → Bool → Bool → Bool → ServiceEnd
end_of_seats no_memory door_fault stopped written =
    if no_memory then Memory
    else (if door_fault then ListenerFault
    else (if stopped then Stopped
    else (if written then Done else SinkFault)))

-- The line was written whole, or a front of it up to a fault of the output.
abbrev pub IsWritten : OutputState → OutputState → List ℕ → Bool → Type 0
IsWritten before after line true = Takes before.taken after.taken line
IsWritten before after line false = TakesFront before.taken after.taken line × Rose before.faults after.faults

-- so many doors of a listener were handed out
abbrev pub LendsMany : ℕ → Option Doors → Option Doors → Type 0
LendsMany n None after = after ≡ None
LendsMany n (Some doors) after = after ≡ Some (record doors { planned = λ k. doors.planned (k + n); lent = doors.lent + n })

-- so many doors of a listener at least are not back yet
abbrev pub AreLent : ℕ → Option Doors → Type 0
AreLent n None = Unit {0}
AreLent n (Some doors) = n ≤ doors.lent

-- What is to come to this door is what was to come to the listener's with this number. It says nothing of a listener, or of a door, that tells nothing.
abbrev pub IsPlannedAt : Option Doors → ℕ → Option Visits → Type 0
IsPlannedAt None k door = Unit {0}
IsPlannedAt (Some doors) k door = IsPlanned (doors.planned k) door

-- Of the connections that were to come to a door, it gave the first, which were given back, and the others are still to come.
abbrev pub HasGiven : List (List ℕ) → Option Visits → Type 0
HasGiven inputs None = Unit {0}
HasGiven inputs (Some door) = inputs ≡ map input_of door.back ++ door.coming

-- of those that were to come to the listener's door with this number
abbrev pub HasGivenAt : Option Doors → ℕ → Option Visits → Type 0
HasGivenAt None k door = Unit {0}
HasGivenAt (Some doors) k door = HasGiven (doors.planned k) door

-- of those that were to come to the door as it was; one that told nothing goes on so
abbrev pub HasGivenSince : Option Visits → Option Visits → Type 0
HasGivenSince None after = after ≡ None
HasGivenSince (Some before) after = HasGiven before.coming after

-- a seat's door when it was taken back, and how the seat ended
pub record SeatRun (D : Type 0) : Type 0 where
  pub door : D
  pub end : SeatEnd

-- No house was opened, and nothing else was asked.
pub record IsUnhoused (rows : Rows) (before after : Seen) (end : ServiceEnd) : Type 0 where
  pub fault : JournalFault
  pub told : end ≡ Unopened fault
  pub opening : OpeningFails rows before.disk after.disk fault
  pub output : after.output ≡ before.output
  pub listener : after.listener ≡ before.listener

module _ {D : Type 0} (visits : D → Option Visits) where
  -- these doors were taken back, one after another
  abbrev pub TakesBackAll : Option Doors → Option Doors → List D → Type 0
  TakesBackAll before after [] = after ≡ before
  TakesBackAll before after (door ∷ doors) = (mid : Option Doors) × TakesBack before mid (visits door) × TakesBackAll mid after doors

  -- from before to after, the listener listened at this address, and these doors were handed out and taken back, in order
  abbrev pub Returned : List ℕ → Option Doors → Option Doors → List D → Type 0
  Returned address before after doors =
      (bound : Option Doors) × (mid : Option Doors) × Binds address before bound × LendsMany (length doors) bound mid × TakesBackAll mid after doors

  -- The listener is as it was, or it listened at this address. The doors that it handed out, if any, came back and had given no connection.
  pub record IsUnasked (address : List ℕ) (before after : Option Doors) : Type 0 where
    pub doors : List D
    pub returned : ((doors ≡ []) × (after ≡ before)) ⊎ Returned address before after doors
    pub unserved : All (λ (door : D). IsNew (visits door)) doors

  -- the same of the doors of these seats, the first of which has the listener's door with this number, and the next the one behind it
  abbrev pub HaveGiven : Option Doors → ℕ → List (SeatRun D) → Type 0
  HaveGiven doors k [] = Unit {0}
  HaveGiven doors k (seat ∷ seats) = HasGivenAt doors k (visits seat.door) × HaveGiven doors (k + 1) seats

  -- The seats could not begin, and the history is what it was. No door was asked for a connection.
  pub record IsUnbegun (address : List ℕ) (v w : HouseView) (output output' : OutputState) (listener listener' : ListenerState) (end : ServiceEnd) : Type 0 where
    pub same : w ≡ v
    pub none_written : output' ≡ output
    pub unasked : IsUnasked address listener.doors listener'.doors
    pub why : (end ≡ Memory) ⊎ ((end ≡ ListenerFault) × Rose listener.faults listener'.faults)

module _ {D : Type 0} (clock : ℕ → Bool) (visits : D → Option Visits) where
  -- these seats, the first with this number and the next with the one above, each of which may serve so many connections, are what came of the house v, which is then w
  abbrev pub AreSeats : ℕ → LockId → HouseView → HouseView → ℕ → List (SeatRun D) → Type 0
  AreSeats most_visits lock v w number [] = Unit {0}
  AreSeats most_visits lock v w number (seat ∷ seats) = IsSeatAt clock most_visits lock v w number (visits seat.door) seat.end × AreSeats most_visits lock v w (number + 1) seats

  -- So many seats served beside one another, over the house v, which is then w. Its history has grown, and each new entry is of one of them.
  pub record HaveServed (plan : ServicePlan) (v w : HouseView) (seats : List (SeatRun D)) : Type 0 where
    pub count : length seats ≡ plan.seats
    pub goes_on : Continues w.history v.history
    pub others : (n : ℕ) → plan.seats < n → entries_of_seat w.history n (end_of v.history) ≡ []
    pub none : entries_of_seat w.history 0 (end_of v.history) ≡ []
    pub lock : LockId
    pub each : AreSeats plan.connections lock v w 1 seats

  -- The listener listened at the address, the seats served, each what was to come to its door, the line of the history's length was written, and the doors were taken back. Where a door failed, the listener's count rose.
  pub record IsService (plan : ServicePlan) (v w : HouseView) (output output' : OutputState) (listener listener' : ListenerState) (end : ServiceEnd) : Type 0 where
    pub seats : List (SeatRun D)
    pub served : HaveServed plan v w seats
    pub returned : Returned visits plan.address listener.doors listener'.doors (map (λ (seat : SeatRun D). seat.door) seats)
    pub given : HaveGiven visits listener.doors 0 seats
    pub written : Bool
    pub wrote : IsWritten output output' (history_line (end_of w.history)) written
    pub told : end ≡ end_of_seats (list_any (λ seat. had_no_memory seat.end) seats) (list_any (λ seat. had_door_fault seat.end) seats) (is_stopped w) written
    pub counted : list_any (λ seat. had_door_fault seat.end) seats ≡ true → Rose listener.faults listener'.faults

  -- by the end of a service over a house that was just opened
  abbrev pub HouseServes : ServicePlan → HouseView → HouseView → OutputState → OutputState → ListenerState → ListenerState → ServiceEnd → Type 0
  HouseServes plan v w output output' listener listener' end =
      IsUnbegun visits plan.address v w output output' listener listener' end ⊎ IsService plan v w output output' listener listener' end

  -- by the end of a service over these rows
  abbrev pub ServiceRuns : ServicePlan → Rows → Seen → Seen → ServiceEnd → Type 0
  ServiceRuns plan rows before after end =
      IsUnhoused rows before after end
      ⊎ OverHouse rows before.disk after.disk (λ v w. HouseServes plan v w before.output after.output before.listener after.listener end)

  -- by the end of a service: the roster could not be had, and nothing else was asked; or what came over its rows
  abbrev pub ServeRuns : List ℕ → ServicePlan → FilesState → FilesState → Seen → Seen → ServiceEnd → Type 0
  ServeRuns roster plan files files' before after end =
      ((fault : LoadFault) × (end ≡ Unloaded fault) × (after ≡ before) × IsRosterUnread files files' roster fault)
      ⊎ OverRoster files.folder roster (λ rows. ServiceRuns plan rows before after end)
