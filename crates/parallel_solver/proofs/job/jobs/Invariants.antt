use Rattle.std.proofs.Common.{◌≡◌, ◌+◌, [], length, vec_len}
use Rattle.std.specs.Prelude.{All}
use Rattle.claim_counter.specs.Workers.{IsWorkerOf, view_of}
use Rattle.parallel_solver.specs.Jobs.{MayWork}
use Rattle.parallel_solver.proofs.job.jobs.Given as goal

abbrev pub invariant-loop : goal.invariant-loop
invariant-loop l = record {
  own : IsWorkerOf l.table l.first;
  room : (view_of l.first).room + l.counter ≡ 64;
  parts : (view_of l.first).parts + l.counter ≡ 65;
  pieces : (view_of l.first).pieces ≡ length l.pieces;
  nothing : (view_of l.first).taken ≡ [];
  count : vec_len l.jobs ≡ l.counter;
  jobs : All (MayWork l.table l.pieces) l.jobs.items;
}
