use Rattle.std.proofs.Common.{◌≡◌, List, ◌++◌, vec_len}
use Rattle.std.specs.Prelude.{All}
use Rattle.book_tests.specs.declared.lock.threads.Job.{Job}
use Rattle.cycle_lock.specs.Passes.{IsPassOf, seat_of, Includes}
use Rattle.book_tests.proofs.lock.threads.gather.Given as goal

abbrev pub invariant-loop-job : goal.invariant-loop-job
invariant-loop-job l = IsPassOf l.turns l.pass × All (λ job. IsPassOf l.turns job.pass) l.jobs.items × (seat_of l.pass ≡ seat_of l.initial.pass) × Includes l.pass l.initial.pass
    × ((taken : List Job) × (l.initial.jobs.items ≡ l.jobs.items ++ taken) × All (λ job. Includes l.pass job.pass) taken)

abbrev pub decreases-loop-job : goal.decreases-loop-job
decreases-loop-job l = vec_len l.jobs
