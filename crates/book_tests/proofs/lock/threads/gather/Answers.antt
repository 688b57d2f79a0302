use denote.Param.Send.{param_send, arg_send}
use Rattle.std.proofs.Common.{◌≡◌, ◌∙◌, ap, subst, List, [], ◌∷◌, ◌++◌, append_assoc}
use Rattle.std.proofs.lemmas.List.Elements.{All-cons}
use Rattle.std.specs.Prelude.{All, slice_index_or}
use Rattle.book_tests.specs.declared.lock.threads.Job.{Job}
use Rattle.cycle_lock.specs.Passes.{IsPassOf, Includes}
use Rattle.book_tests.proofs.Includes.{through, all_front}
use Rattle.cycle_states.proofs.Sends.{plain_desk_send}
use Rattle.book_tests.proofs.lock.threads.gather.Goals as goal

-- the desk may go to another thread

pub join-requires-send-T : goal.join-requires-send-T
join-requires-send-T c κs = search (param_send, arg_send, plain_desk_send)

pub loop-job-preserved : goal.loop-job-preserved
loop-job-preserved c =
    let i = c.loop-job.invariant in let x = c.in-Some.job in let p = c.join.new.pass in let q = c.loop-job.pass in
    let e : c.loop-job.jobs.items ≡ c.pop.new.self.items ++ x ∷ [] = c.in-Some.ensures.items in
    let all = subst (λ (l : List Job). All (λ job. IsPassOf c.args.turns.now job.pass) l) e i.1 in (
      c.join.ensures.own.0,
      all_front (λ (job : Job). IsPassOf c.args.turns.now job.pass) c.pop.new.self.items (x ∷ []) all,
      c.join.ensures.own.1 ∙ i.2,
      through p q c.args.pass.now c.join.ensures.old i.3,
      (
        x ∷ i.4.0,
        i.4.1 ∙ (ap (λ (l : List Job). l ++ i.4.0) e ∙ append_assoc c.pop.new.self.items (x ∷ []) i.4.0),
        All-cons (λ (job : Job). Includes p job.pass) x i.4.0 c.join.ensures.other (λ k d lt. through p q (slice_index_or i.4.0 k d).pass c.join.ensures.old (i.4.2 k d lt)),
      ),
    )
