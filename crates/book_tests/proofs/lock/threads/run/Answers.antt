use denote.Param.Send.{param_send, arg_send}
use Rattle.std.proofs.Common.{rules, ◌≡◌, ◌∙◌, ◌++◌, List, All, length, take, drop, ap, sym, subst}
use Rattle.std.proofs.Math.Seq.{take-append_seam}
use Rattle.cycle_states.proofs.Sends.{plain_desk_send}
use Rattle.cycle_lock.specs.Passes.{IsPassOf}
use Rattle.book_tests.specs.declared.lock.threads.Job.{Job}
use Rattle.book_tests.proofs.lock.threads.run.Goals as goal

-- the desk may go to another thread

pub work-requires-send-D : goal.work-requires-send-D
work-requires-send-D g c κs within = search (param_send, arg_send, plain_desk_send)

pub gather-requires : goal.gather-requires
gather-requires g c =
    let new = c.work.new.jobs in
    let old = c.in_ok-jobs.jobs.items in
    let same : length new ≡ c.in_ok-jobs.jobs.len = search rules in
    let anew : take c.in_ok-jobs.jobs.len (new ++ drop (length new) old) ≡ new = ap (λ n. take n (new ++ drop (length new) old)) (sym same) ∙ take-append_seam new (drop (length new) old) in
    record { own = (c.split_off.ensures.own, subst (λ (jobs : List Job). All (λ job. IsPassOf c.args.turns.now job.pass) jobs) (sym anew) c.work.ensures) }
