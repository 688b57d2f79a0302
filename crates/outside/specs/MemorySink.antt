-- Sinks over memory.
use Rattle.std.specs.Prelude.{ℕ, ◌-◌, nat_lt, ◌==◌, ◌&&◌, ◌||◌, Bool, List, [], ◌++◌, length}
use Rattle.outside.specs.Faults.{one_more, is_listed}

-- a sink in memory: the bytes that it took, the room that it has left, how many writes it had, which of them fail, the
-- first being 1, and how many failed
pub record MemoryOutput : Type 0 where
  pub taken : List ℕ
  pub room : ℕ
  pub writes : ℕ
  pub failing : List ℕ
  pub faults : ℕ

-- a sink with this much room
abbrev pub fresh_output : ℕ → MemoryOutput
fresh_output room = record { taken = []; room = room; writes = 0; failing = []; faults = 0 }

-- the next write fails with this piece: it is one of those that fail, or the piece is not empty and no room is left
abbrev pub next_write_fails : MemoryOutput → List ℕ → Bool
next_write_fails s bytes = is_listed (one_more s.writes) s.failing || (nat_lt 0 (length bytes) && (s.room == 0))

-- after a write that failed
abbrev pub output_after_fault : MemoryOutput → MemoryOutput
output_after_fault s = record s { writes = one_more s.writes; faults = one_more s.faults }

-- after a write that took this piece
abbrev pub output_after_write : MemoryOutput → List ℕ → MemoryOutput
output_after_write s piece =
    record s { taken = s.taken ++ piece; room = s.room - length piece; writes = one_more s.writes }
