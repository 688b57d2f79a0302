use Rattle.std.proofs.Common.{◌∙◌, ◌<◌, length, sym, arith, refl}
use Rattle.parallel_solver.proofs.Rights.{more_work, pushed, ok_where_no_err}
use Rattle.parallel_solver.proofs.workers.Workers.work.Goals as goal

pub loop-job-preserved : goal.loop-job-preserved
loop-job-preserved g c =
    let job = c.loop-job.job in
    let place = c.claim-place.result in
    let within : place < length c.args.pieces.now = omega (arith, c.if-place-len.false, c.len.ensures) in
    more_work c.args.table.now c.args.pieces.now job (record { worker = c.claim-place.new.by; done = c.push.new.self; finished = job.finished }) place (record { place = place; solution = c.in-Ok.solution }) c.loop-job.invariant
    c.claim-place.ensures.own c.claim-place.ensures.claimed within refl (record { within = within; solves = c.in-Ok.ensures }) (pushed _ _ _ _ c.push.ensures.items (ok_where_no_err c.push.result (sym c.is_err.ensures.value ∙ c.if-is_err.false))) refl
