-- What a disk over a file shows.
use Rattle.std.specs.Prelude.{ℕ, Bool}
use Rattle.outside.specs.declared.file_disk.FileDisk.{FileDisk}

-- how many calls of a disk failed
abbrev pub file_faults : {R F : Type 0} → FileDisk R F → ℕ
file_faults d = d.faults

-- an attachment or a change of a disk's file failed, and the disk has not been attached since
abbrev pub is_lost : {R F : Type 0} → FileDisk R F → Bool
is_lost d = d.is_lost
