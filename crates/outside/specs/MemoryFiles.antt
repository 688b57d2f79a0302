-- Files in memory.
use Rattle.std.specs.Prelude.{ℕ, Bool, not, ◌||◌, is_some, List, [], ◌∷◌, Option, Some, None, if◌then◌else◌}
use Rattle.std.specs.Str.{bytes_eq}
use Rattle.outside.specs.Faults.{one_more, is_listed}

-- the bytes of a file and its name
pub record NamedBytes : Type 0 where
  pub name : List ℕ
  pub bytes : List ℕ

-- the bytes of the first file with this name
abbrev pub bytes_named : List NamedBytes → List ℕ → Option (List ℕ)
bytes_named [] name = None
bytes_named (file ∷ files) name = if bytes_eq file.name name then Some file.bytes else bytes_named files name

-- files in memory, the last that was put there first; how many reads they had, which of them fail, the first being 1,
-- and how many failed
pub record MemoryFolder : Type 0 where
  pub files : List NamedBytes
  pub reads : ℕ
  pub failing : List ℕ
  pub faults : ℕ

-- no file yet
abbrev pub fresh_folder : MemoryFolder
fresh_folder = record { files = []; reads = 0; failing = []; faults = 0 }

-- after a file was put there
abbrev pub with_file : MemoryFolder → List ℕ → List ℕ → MemoryFolder
with_file m name bytes = record m { files = record { name = name; bytes = bytes } ∷ m.files }

-- the next read fails at this name: it is one of those that fail, or there is no such file
abbrev pub next_look_fails : MemoryFolder → List ℕ → Bool
next_look_fails m name = is_listed (one_more m.reads) m.failing || not (is_some (bytes_named m.files name))

-- after a read that failed
abbrev pub folder_after_fault : MemoryFolder → MemoryFolder
folder_after_fault m = record m { reads = one_more m.reads; faults = one_more m.faults }

-- after a read that didn't
abbrev pub folder_after_read : MemoryFolder → MemoryFolder
folder_after_read m = record m { reads = one_more m.reads }
