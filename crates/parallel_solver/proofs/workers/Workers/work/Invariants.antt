use Rattle.std.proofs.Common.{◌-◌, length}
use Rattle.claim_counter.specs.Workers.{view_of}
use Rattle.parallel_solver.specs.Jobs.{MayWork}
use Rattle.parallel_solver.proofs.workers.Workers.work.Given as goal

abbrev pub invariant-loop-job : goal.invariant-loop-job
invariant-loop-job g l = MayWork l.table l.pieces l.job

abbrev pub decreases-loop-job : goal.decreases-loop-job
decreases-loop-job g l = length l.pieces - length (view_of l.job.worker).taken
