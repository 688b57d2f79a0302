-- Doors in memory.
use Rattle.std.specs.Prelude.{◌≡◌, ℕ, ◌+◌, ◌-◌, Bool, List, [], ◌∷◌, ◌++◌, map}
use Rattle.outside.specs.Faults.{one_more, is_listed}
use Rattle.doors.specs.declared.memory_connection.MemoryConnection.{MemoryConnection}
use Rattle.doors.specs.Visits.{Visit, Visits}

-- a door in memory: the connections that are to come, how many are out, those that were given back, how often it was asked for one, which of these calls fail, the first being 1, and how many failed
pub record MemoryVisits : Type 0 where
  pub coming : List MemoryConnection
  pub out : ℕ
  pub back : List MemoryConnection
  pub calls : ℕ
  pub failing : List ℕ
  pub faults : ℕ

-- a door to which nobody comes
abbrev pub empty_door : MemoryVisits
empty_door = record { coming = []; out = 0; back = []; calls = 0; failing = []; faults = 0 }

-- no connection was asked for yet, or the calls for one changed nothing
pub record IsUnused (d : MemoryVisits) : Type 0 where
  pub out : d.out ≡ 0
  pub back : d.back ≡ []
  pub faults : d.faults ≡ 0

-- a connection that gave and took nothing yet, and no call of whose streams failed
pub record IsFresh (c : MemoryConnection) : Type 0 where
  pub given : c.input.given ≡ []
  pub taken : c.output.taken ≡ []
  pub input_faults : c.input.faults ≡ 0
  pub output_faults : c.output.faults ≡ 0

-- the bytes that its input is to give
abbrev pub input_bytes : MemoryConnection → List ℕ
input_bytes c = c.input.left

-- a connection with what its streams tell
abbrev pub visit_by : MemoryConnection → Visit
visit_by c = record { gave = c.input.given; left = c.input.left; took = c.output.taken; input_faults = c.input.faults; output_faults = c.output.faults }

-- what a door tells of its connections
abbrev pub visits_by : MemoryVisits → Visits
visits_by d = record { coming = map input_bytes d.coming; out = d.out; back = map visit_by d.back }

-- one more connection is to come, behind the others
abbrev pub with_connection : MemoryVisits → MemoryConnection → MemoryVisits
with_connection d c = record d { coming = d.coming ++ c ∷ [] }

-- one more call is to fail
abbrev pub with_failing : MemoryVisits → ℕ → MemoryVisits
with_failing d call = record d { failing = d.failing ++ call ∷ [] }

-- the next call is one of those that fail
abbrev pub next_accept_fails : MemoryVisits → Bool
next_accept_fails d = is_listed (one_more d.calls) d.failing

-- after a call that failed, and after one that found no connection
abbrev pub door_after_fault : MemoryVisits → MemoryVisits
door_after_fault d = record d { calls = one_more d.calls; faults = one_more d.faults }

abbrev pub door_after_look : MemoryVisits → MemoryVisits
door_after_look d = record d { calls = one_more d.calls }

-- after a connection was given, where these are still to come, and after one was given back
abbrev pub door_after_accept : MemoryVisits → List MemoryConnection → MemoryVisits
door_after_accept d rest = record d { coming = rest; out = d.out + 1; calls = one_more d.calls }

abbrev pub door_after_return : MemoryVisits → MemoryConnection → MemoryVisits
door_after_return d c = record d { out = d.out - 1; back = d.back ++ c ∷ [] }
