use Rattle.std.proofs.Common.{◌≤◌, ◌-◌, length}
use Rattle.std.specs.Io.KnownBytes.{Consumes}
use Rattle.outside.specs.Streams.{reader_of}
use Rattle.outside.proofs.system_files.front_of.Given as goal

abbrev pub invariant-loop-piece : goal.invariant-loop-piece
invariant-loop-piece g l = record {
  few : length l.bytes.items ≤ l.most;
  gave : Consumes (g.F.Read.remaining l.fn.file) (g.F.Read.remaining (reader_of l.source)) l.bytes.items;
}

abbrev pub decreases-loop-piece : goal.decreases-loop-piece
decreases-loop-piece g l = l.most - length l.bytes.items
