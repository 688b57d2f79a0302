-- What the files of the system are read by.
use Rattle.std.specs.Prelude.{◌≡◌, ℕ, List, take, Option, Some, None}
use Rattle.outside.specs.declared.system_files.SystemFiles.{SystemFiles}

-- how many reads failed
abbrev pub file_faults : {R File Dir : Type 0} → SystemFiles R File Dir → ℕ
file_faults s = s.faults

-- These are the first of the bytes that a reader has left, as many as the most says or all of them. It says nothing
-- where the reader doesn't tell its bytes.
abbrev pub IsFrontOf : Option (List ℕ) → ℕ → List ℕ → Type 0
IsFrontOf None most bytes = Unit {0}
IsFrontOf (Some left) most bytes = bytes ≡ take most left
