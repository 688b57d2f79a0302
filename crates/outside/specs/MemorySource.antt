-- Sources over bytes in memory.
use Rattle.std.specs.Prelude.{ℕ, Bool, List, [], ◌++◌, take, drop}
use Rattle.outside.specs.Flow.{Flow}
use Rattle.outside.specs.Faults.{one_more, is_listed}

-- a source in memory: the bytes that it gave and has left, how many reads it had, which of them fail, the first being
-- 1, and how many failed
pub record MemoryInput : Type 0 where
  pub given : List ℕ
  pub left : List ℕ
  pub reads : ℕ
  pub failing : List ℕ
  pub faults : ℕ

-- a source that is to give these bytes
abbrev pub fresh_input : List ℕ → MemoryInput
fresh_input bytes = record { given = []; left = bytes; reads = 0; failing = []; faults = 0 }

-- the next read is one of those that fail
abbrev pub next_read_fails : MemoryInput → Bool
next_read_fails s = is_listed (one_more s.reads) s.failing

-- after a read that failed
abbrev pub input_after_fault : MemoryInput → MemoryInput
input_after_fault s = record s { reads = one_more s.reads; faults = one_more s.faults }

-- after a read that gave this many bytes
abbrev pub input_after_read : MemoryInput → ℕ → MemoryInput
input_after_read s n = record s { given = s.given ++ take n s.left; left = drop n s.left; reads = one_more s.reads }

-- what the source tells of its bytes
abbrev pub input_flow : MemoryInput → Flow
input_flow s = record { given = s.given; left = s.left }
