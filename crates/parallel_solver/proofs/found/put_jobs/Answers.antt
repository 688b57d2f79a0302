use Rattle.std.proofs.Common.{◌≡◌, true, ◌∷◌, [], inr, ap, arith}
use Rattle.claim_counter.specs.Workers.{view_of}
use Rattle.parallel_solver.specs.Jobs.{HasWorked}
use Rattle.parallel_solver.proofs.Rights.{all_front, all_last, more_claims, passes_too}
use Rattle.parallel_solver.proofs.found.put_jobs.Goals as goal

pub loop-job-preserved : goal.loop-job-preserved
loop-job-preserved c =
    let i = c.loop-job.invariant in
    let P = HasWorked c.args.table.now c.args.pieces.now in
    let job = c.in-Some.job in
    let h = all_last P c.pop.new.self.items c.loop-job.jobs.items job c.in-Some.ensures.items i.jobs in
    let finished : job.finished ≡ true = c.if-not-finished.false in
    let size = c.in-Some.ensures.cases in
    let parts = ap (λ v. v.parts) c.join.ensures.both in
    let taken = ap (λ v. v.taken) c.join.ensures.both in
    record {
      own = c.join.ensures.own;
      parts = omega (arith, i.parts, parts, h.parts, size);
      few = omega (arith, i.few, size);
      right = c.put_all.ensures.right;
      jobs = all_front P c.pop.new.self.items (job ∷ []) c.loop-job.jobs.items c.in-Some.ensures.items i.jobs;
      finds = more_claims c.args.pieces.now _ _ (view_of job.worker).taken job.done.items c.loop-job.found c.put_all.new.found taken (h.claims finished) c.put_all.ensures.found i.finds;
      passed = inr (passes_too c.args.pieces.now _ _ (view_of job.worker).taken taken (h.passed finished));
    }
