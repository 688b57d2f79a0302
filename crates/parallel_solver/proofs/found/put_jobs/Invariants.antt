use Rattle.std.proofs.Common.{◌≡◌, ◌+◌, ◌≤◌, ◌⊎◌, vec_len}
use Rattle.std.specs.Prelude.{All}
use Rattle.claim_counter.specs.Workers.{IsWorkerOf, view_of}
use Rattle.parallel_solver.specs.Jobs.{HasWorked, HasPassed, AreRight}
use Rattle.parallel_solver.proofs.Rights.{FindsClaims}
use Rattle.parallel_solver.proofs.found.put_jobs.Given as goal

abbrev pub invariant-loop-job : goal.invariant-loop-job
invariant-loop-job l = record {
  own : IsWorkerOf l.table l.first;
  parts : (view_of l.first).parts + vec_len l.jobs ≡ 65;
  few : vec_len l.jobs ≤ 64;
  right : AreRight l.pieces l.found;
  jobs : All (HasWorked l.table l.pieces) l.jobs.items;
  finds : FindsClaims l.pieces (view_of l.first).taken l.found;
  passed : (1 ≤ vec_len l.jobs) ⊎ HasPassed l.pieces (view_of l.first).taken;
}

abbrev pub decreases-loop-job : goal.decreases-loop-job
decreases-loop-job l = vec_len l.jobs
