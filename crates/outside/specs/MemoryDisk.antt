-- Disks over memory.
use Rattle.std.specs.Prelude.{◌≡◌, ℕ, ◌+◌, ◌≤◌, nat_lt, nat_le, ◌||◌, Bool, List, [], ◌∷◌, length, take, drop}
use Rattle.outside.specs.Disk.{History, settled_history, after_write, after_cut, after_sync}
use Rattle.outside.specs.Faults.{one_more, is_listed}
use Rattle.outside.specs.declared.memory_disk.Step.{Step}

-- a disk in memory: what it holds and what a crash may leave, the bytes that it has room for, those that are used, the
-- writes, cuts and syncs that it has room for, those that it had, its calls, which of them fail, the first being 1, and
-- how many failed
pub record MemoryStore : Type 0 where
  pub history : History
  pub room : ℕ
  pub used : ℕ
  pub most_steps : ℕ
  pub steps : ℕ
  pub calls : ℕ
  pub failing : List ℕ
  pub faults : ℕ

-- a settled disk with this room that holds these bytes
abbrev pub fresh_store : ℕ → ℕ → List ℕ → MemoryStore
fresh_store room most_steps bytes =
    record { history = settled_history bytes; room = room; used = length bytes; most_steps = most_steps; steps = 0; calls = 0; failing = []; faults = 0 }

-- the next call is one of those that fail
abbrev pub next_call_fails : MemoryStore → Bool
next_call_fails s = is_listed (one_more s.calls) s.failing

-- so is a write, cut or sync that finds no room, with as many bytes as it writes
abbrev pub next_step_fails : MemoryStore → ℕ → Bool
next_step_fails s count = next_call_fails s || (nat_le s.most_steps s.steps || nat_lt s.room (s.used + count))

-- after a call that failed, and after one that changed nothing
abbrev pub store_after_fault : MemoryStore → MemoryStore
store_after_fault s = record s { calls = one_more s.calls; faults = one_more s.faults }

abbrev pub store_after_look : MemoryStore → MemoryStore
store_after_look s = record s { calls = one_more s.calls }

-- after a write, a cut or a sync that writes so many bytes and leaves this history
abbrev pub store_after_step : MemoryStore → ℕ → History → MemoryStore
store_after_step s count history =
    record s { history = history; used = s.used + count; steps = s.steps + 1; calls = one_more s.calls }

-- a disk after the steps that it kept, whose writes have these bytes one after another
abbrev pub replayed : List Step → List ℕ → History → History
replayed [] written h = h
replayed (Step.Write place count ∷ steps) written h = replayed steps (drop count written) (after_write place (take count written) h)
replayed (Step.Cut size ∷ steps) written h = replayed steps written (after_cut size h)
replayed (Step.Sync ∷ steps) written h = replayed steps written (after_sync h)

-- how many bytes their writes have
abbrev pub written_by : List Step → ℕ
written_by [] = 0
written_by (Step.Write place count ∷ steps) = count + written_by steps
written_by (Step.Cut size ∷ steps) = written_by steps
written_by (Step.Sync ∷ steps) = written_by steps

-- what a disk in memory keeps is what its steps made of the bytes that it began with
pub record IsKept (first : List ℕ) (steps : List Step) (bytes last all : List ℕ) : Type 0 where
  pub content : all ≡ (replayed steps bytes (settled_history first)).content
  pub synced : last ≡ (replayed steps bytes (settled_history first)).now.synced
  pub written : written_by steps ≡ length bytes
  pub content_size : length all ≤ length first + length bytes
  pub synced_size : length last ≤ length first + length bytes
