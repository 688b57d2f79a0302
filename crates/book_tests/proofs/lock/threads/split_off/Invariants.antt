use Rattle.std.proofs.Common.{◌≤◌, ◌-◌}
use Rattle.std.specs.Prelude.{All}
use Rattle.cycle_lock.specs.Passes.{IsPassOf, may_split}
use Rattle.book_tests.proofs.lock.threads.split_off.Given as goal

abbrev pub invariant-loop : goal.invariant-loop
invariant-loop l = IsPassOf l.turns l.pass × (l.count - l.counter ≤ may_split l.pass) × All (λ job. IsPassOf l.turns job.pass) l.jobs.items
