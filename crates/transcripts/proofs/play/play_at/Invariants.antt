use Rattle.std.specs.Prelude.{Some}
use Rattle.outside.specs.Disk.{IsSettled}
use Rattle.transcripts.proofs.play.play_at.Given as goal

abbrev pub invariant-loop-run : goal.invariant-loop-run
invariant-loop-run g l = IsSettled (Some l.disk.history)
