use Rattle.std.proofs.Common.{◌∙◌, ◌+◌, ap, arith, refl}
use Rattle.parallel_solver.specs.Jobs.{MayWork}
use Rattle.parallel_solver.proofs.Rights.{all_more, new_work}
use Rattle.parallel_solver.proofs.job.jobs.Goals as goal

pub loop-preserved : goal.loop-preserved
loop-preserved c =
    let i = c.loop.invariant in
    let r = c.split.ensures in
    let room = ap (λ v. v.room) r.rest in
    let parts = ap (λ v. v.parts) r.rest in
    record {
      own = r.own.0;
      room = omega (arith, i.room, room, c.requires.count, c.loop-test.true);
      parts = omega (arith, i.parts, parts, c.requires.count, c.loop-test.true);
      pieces = ap (λ v. v.pieces) r.rest ∙ i.pieces;
      nothing = ap (λ v. v.taken) r.rest ∙ i.nothing;
      count = c.in_ok-push.ensures.len ∙ ap (λ n. n + 1) i.count;
      jobs = all_more (MayWork c.args.table.now c.args.pieces.now) c.loop.jobs.items c.push.new.self.items _ c.in_ok-push.ensures.items i.jobs
          (new_work c.args.table.now c.args.pieces.now _ r.own.1 (let a = ap (λ v. v.room) r.worker in omega arith) (ap (λ v. v.parts) r.worker) (ap (λ v. v.pieces) r.worker ∙ i.pieces) (ap (λ v. v.taken) r.worker)
          c.in_ok-done.ensures.items refl);
    }
