-- Records that were read when a journal was opened.
use Rattle.std.specs.Prelude.{ℕ, ◌+◌, ◌≤◌, ◌<◌, ◌^◌, List, length}
use Rattle.command_types.specs.declared.spelling.Spelling.{Spelling}
use Rattle.journal_core.specs.Holds.{Holds}
use Rattle.journal_core.specs.RecordBytes.{walked_of}
use Rattle.journal_core.specs.Walk.{bytes_of, IsWalked}
use Rattle.journal_core.specs.declared.record_bytes.RecordBytes.{RecordBytes}
use Rattle.record_pool.specs.Marks.{MarksView}
use Rattle.record_pool.specs.Parts.{AreParts}
use Rattle.record_pool.specs.declared.parts.Parts.{Parts}

-- the file holds these records
abbrev pub HoldsThese : List ℕ → List (List ℕ) → Type 0
HoldsThese file records = (base : List ℕ) × Holds file base records

-- the records that a file holds, and their parts
pub record IsMarked (file : List ℕ) (start : Spelling) (records : List (List ℕ)) (parts : Parts) : Type 0 where
  pub held : HoldsThese file records
  pub parted : AreParts start records parts
  pub few : length records < 2 ^ 63

-- the records are those of the file that was read
pub record IsOpened (bytes : RecordBytes) (marks : MarksView) (first skipped : ℕ) : Type 0 where
  pub walked : IsWalked (walked_of bytes)
  pub held : HoldsThese (bytes_of (walked_of bytes)) marks.records
  pub within : first + skipped ≤ length marks.records
  pub few : length marks.records < 2 ^ 63
