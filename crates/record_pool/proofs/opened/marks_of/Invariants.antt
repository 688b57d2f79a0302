use Rattle.std.proofs.Common.{◌≡◌, ◌+◌, ◌<◌, ◌^◌, length}
use Rattle.journal_core.specs.Frame.{frames_length}
use Rattle.journal_core.specs.RecordBytes.{walked_of}
use Rattle.journal_core.specs.Walk.{bytes_of}
use Rattle.record_pool.specs.Parts.{AreParts}
use Rattle.record_pool.proofs.AheadFacts.{HasMarked}
use Rattle.record_pool.proofs.opened.marks_of.Given as goal

abbrev pub invariant-loop-found : goal.invariant-loop-found
invariant-loop-found l = record {
  ahead : HasMarked (bytes_of (walked_of l.bytes)) l.marks.records l.ahead.at l.ahead.rest.now;
  place : l.ahead.at ≡ l.gate + frames_length l.marks.records;
  few : length l.marks.records + length l.ahead.rest.now < 2 ^ 63;
  parts : AreParts l.fn.start l.marks.records l.parts;
}

abbrev pub decreases-loop-found : goal.decreases-loop-found
decreases-loop-found l = length l.ahead.rest.now
