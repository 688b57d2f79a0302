-- Listeners in memory.
use Rattle.std.specs.Prelude.{◌≡◌, ◌≢◌, ◌<◌, length, slice_index_or, ℕ, ◌+◌, ◌-◌, nat_lt, ◌==◌, Bool, List, [], ◌∷◌, ◌++◌, map, Option, Some, None, if◌then◌else◌}
use Rattle.outside.specs.Faults.{one_more, is_listed}
use Rattle.doors.specs.declared.planned_door.PlannedDoor.{PlannedDoor}
use Rattle.doors.specs.Visits.{Doors}
use Rattle.doors.specs.MemoryDoor.{MemoryVisits, empty_door, input_bytes, visits_by}

-- a listener in memory: the address at which it listens; the doors to which something was added; how many doors were handed out, how many of them are not back, those that were taken back, in order; how often it was asked to listen or for a door, which of these calls fail, the first being 1, its count of faults, and the seconds that it was told
pub record MemoryHall : Type 0 where
  pub address : Option (List ℕ)
  pub planned : List PlannedDoor
  pub handed : ℕ
  pub lent : ℕ
  pub back : List MemoryVisits
  pub calls : ℕ
  pub failing : List ℕ
  pub faults : ℕ
  pub idle : Option ℕ

-- nobody comes to any door
abbrev pub empty_hall : MemoryHall
empty_hall = record { address = None; planned = []; handed = 0; lent = 0; back = []; calls = 0; failing = []; faults = 0; idle = None }

-- the door with this number among these, one to which nobody comes where it isn't there
abbrev pub door_at : List PlannedDoor → ℕ → MemoryVisits
door_at [] n = empty_door
door_at (one ∷ others) n = if one.number == n then one.door else door_at others n

-- the first door with this number stands here
pub record IsPlaceOf (doors : List PlannedDoor) (number place : ℕ) : Type 0 where
  pub within : place < length doors
  pub there : (other : PlannedDoor) → (slice_index_or doors place other).number ≡ number
  pub first : (earlier : ℕ) (other : PlannedDoor) → earlier < place → (slice_index_or doors earlier other).number ≢ number

-- the doors with another in this place
abbrev pub with_door : (ℕ → MemoryVisits) → ℕ → MemoryVisits → ℕ → MemoryVisits
with_door doors place door n = if place == n then door else doors n

-- the bytes of each connection that is to come to the next doors that are handed out
abbrev pub planned_by : MemoryHall → ℕ → List (List ℕ)
planned_by m n = map input_bytes (door_at m.planned (n + m.handed)).coming

-- what a listener tells of its doors
abbrev pub doors_by : MemoryHall → Doors
doors_by m = record { address = m.address; planned = planned_by m; lent = m.lent; back = map visits_by m.back }

-- the next call is one of those that fail
abbrev pub next_call_fails : MemoryHall → Bool
next_call_fails m = is_listed (one_more m.calls) m.failing

-- after a call that failed, and after one that found no memory
abbrev pub hall_after_fault : MemoryHall → MemoryHall
hall_after_fault m = record m { calls = one_more m.calls; faults = one_more m.faults }

abbrev pub hall_after_call : MemoryHall → MemoryHall
hall_after_call m = record m { calls = one_more m.calls }

-- after a call that listens at this address
abbrev pub hall_after_bind : MemoryHall → List ℕ → MemoryHall
hall_after_bind m address = record m { address = Some address; calls = one_more m.calls }

-- after a door was handed out, where these are still planned
abbrev pub hall_after_door : MemoryHall → List PlannedDoor → MemoryHall
hall_after_door m planned = record m { planned = planned; handed = m.handed + 1; lent = m.lent + 1; calls = one_more m.calls }

-- From old to new, this door has become that one, and nothing else changed.
pub record ChangesDoor (old new : MemoryHall) (place : ℕ) (door : MemoryVisits) : Type 0 where
  pub doors : (n : ℕ) → door_at new.planned n ≡ with_door (door_at old.planned) place door n
  pub others : new ≡ record old { planned = new.planned }

-- From old to new, no door has changed, nor anything else.
pub record KeepsDoors (old new : MemoryHall) : Type 0 where
  pub doors : (n : ℕ) → door_at new.planned n ≡ door_at old.planned n
  pub others : new ≡ record old { planned = new.planned }

-- a listener's count of faults, once it took back a door with this one
abbrev pub with_faults_of : ℕ → ℕ → ℕ
with_faults_of faults of_door = if nat_lt 0 of_door then one_more faults else faults

-- after it was told these seconds
abbrev pub hall_after_telling : MemoryHall → Option ℕ → MemoryHall
hall_after_telling m seconds = record m { idle = seconds }

-- after a door was taken back
abbrev pub hall_after_return : MemoryHall → MemoryVisits → MemoryHall
hall_after_return m d = record m { lent = m.lent - 1; back = m.back ++ d ∷ []; faults = with_faults_of m.faults d.faults }
