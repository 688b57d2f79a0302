-- The bytes of a file's records.
use Rattle.journal_core.specs.declared.record_bytes.RecordBytes.{RecordBytes}
use Rattle.journal_core.specs.declared.walked.Walked.{Walked}

-- the file as it was walked over
abbrev pub walked_of : RecordBytes → Walked
walked_of r = r.walked.value
